pub mod Layout
pub mod Boot
pub mod Regions
pub mod Moves
pub mod Turns
pub mod Running
pub mod Standing
pub mod Touches
