pub mod Types
pub mod Calls
pub mod Finding
pub mod Members
