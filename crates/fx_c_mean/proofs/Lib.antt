pub mod Starts
pub mod Waiting
pub mod Inputs
pub mod Known
pub mod Merged
mod Ending
