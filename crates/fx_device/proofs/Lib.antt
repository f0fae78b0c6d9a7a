pub mod Boxes
pub mod Law
