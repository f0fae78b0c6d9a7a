pub mod Steps
pub mod Direct
pub mod Operands
pub mod Late
pub mod Lengths
pub mod Code
