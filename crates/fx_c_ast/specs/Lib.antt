pub mod ParsedTrees
pub mod CheckedTrees
pub mod Elements
pub mod Layout
pub mod StackUse
pub mod Counts
pub mod Members
