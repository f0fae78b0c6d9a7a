pub mod Integers
pub mod Divisions
pub mod Blocks
pub mod Operators
