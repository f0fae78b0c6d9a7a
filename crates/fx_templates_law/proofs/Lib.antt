pub mod Tested
pub mod Parts
pub mod Operators
pub mod Rows
