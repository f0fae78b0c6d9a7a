pub mod Pairs
pub mod Regions
pub mod Initials
pub mod Placement
