pub mod Listed
pub mod Demands
pub mod Heads
pub mod Runs
pub mod Rules
pub mod Refused
pub mod Nodes
pub mod Statements
