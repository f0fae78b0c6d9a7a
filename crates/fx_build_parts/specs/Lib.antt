pub mod Pending
pub mod Functions
pub mod Ranges
pub mod Parts
