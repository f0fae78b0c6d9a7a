pub mod Written
pub mod Sizes
pub mod Heads
pub mod HeadsView
pub mod Names
