pub mod Granted
pub mod Pairs
pub mod Spelled
pub mod Words
pub mod Heads
pub mod Names
pub mod Given
