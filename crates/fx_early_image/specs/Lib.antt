pub mod Code
pub mod Layout
pub mod Source
pub mod Faithful
