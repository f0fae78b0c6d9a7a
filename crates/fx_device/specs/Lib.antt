pub mod Rules
pub mod Stock
pub mod Bus
