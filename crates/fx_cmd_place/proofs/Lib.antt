pub mod Strings
pub mod Ready
pub mod Ways
pub mod Granted
pub mod Steps
pub mod Rows
