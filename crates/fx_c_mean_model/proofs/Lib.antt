mod Texts
mod Rows
mod Undefined
mod Costs
pub mod Growing
pub mod Every
pub mod Denials
pub mod Writing
pub mod Accesses
mod Ending
