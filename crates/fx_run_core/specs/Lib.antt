pub mod Ran
pub mod Reached
pub mod Stepping
