pub mod Differ
pub mod Loops
pub mod Texts
pub mod Views
