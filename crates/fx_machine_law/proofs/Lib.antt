pub mod Kept
pub mod Access
pub mod Found
pub mod Keys
pub mod Rip
pub mod Steps
