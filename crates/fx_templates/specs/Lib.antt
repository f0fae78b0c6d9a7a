pub mod Variables
pub mod Ops
pub mod Beginnings
