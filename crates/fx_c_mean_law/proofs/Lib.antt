pub mod Loads
pub mod Stepping
pub mod Reaching
