pub mod Checks
pub mod Types
pub mod Values
pub mod Operators
pub mod Structs
pub mod Locals
pub mod Calls
