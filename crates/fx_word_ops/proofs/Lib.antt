pub mod Carries
pub mod Masks
pub mod Remainders
