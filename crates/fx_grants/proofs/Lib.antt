pub mod Members
pub mod Granted
pub mod Firsts
