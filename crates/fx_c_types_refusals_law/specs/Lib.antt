pub mod Kinds
pub mod Heads
pub mod Refused
pub mod Laws
pub mod Nodes
pub mod NodeLaws
