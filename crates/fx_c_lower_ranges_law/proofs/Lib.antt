pub mod Nodes
pub mod Steps
pub mod Typed
pub mod Law
