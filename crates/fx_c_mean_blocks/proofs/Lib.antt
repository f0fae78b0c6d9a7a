pub mod Bounds
pub mod Deaths
