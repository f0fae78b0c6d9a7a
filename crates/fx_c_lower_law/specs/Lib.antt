pub mod Fits
pub mod Correct
