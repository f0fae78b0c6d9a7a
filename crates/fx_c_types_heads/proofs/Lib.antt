pub mod Fields
pub mod Sized
pub mod Tables
pub mod Lists
