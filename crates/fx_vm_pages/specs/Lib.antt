pub mod Entries
pub mod Access
pub mod Space
