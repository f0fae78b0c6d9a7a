pub mod Frames
pub mod Addresses
