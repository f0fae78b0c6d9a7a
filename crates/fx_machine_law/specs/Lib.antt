pub mod Kept
pub mod Code
pub mod Pkru
pub mod Steps
