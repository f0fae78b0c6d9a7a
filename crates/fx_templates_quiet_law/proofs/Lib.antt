pub mod Forms
pub mod Numbers
pub mod Tested
pub mod Parts
pub mod Operators
pub mod Ops
pub mod Beginnings
pub mod Gates
