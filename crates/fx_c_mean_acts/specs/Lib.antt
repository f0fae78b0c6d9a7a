pub mod Cores
pub mod Stepping
pub mod Layers
pub mod Uses
