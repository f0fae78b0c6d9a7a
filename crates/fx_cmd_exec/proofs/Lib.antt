pub mod Holding
pub mod Coming
pub mod Ending
pub mod Statuses
pub mod AnyEnding
pub mod AnyComing
