pub mod Places
pub mod Entries
pub mod Code
pub mod Data
pub mod Linked
pub mod Tables
