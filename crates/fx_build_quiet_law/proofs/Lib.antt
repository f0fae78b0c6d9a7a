pub mod Registers
pub mod Pending
pub mod Growth
pub mod Functions
pub mod Frames
pub mod Inside
pub mod Whole
pub mod Short
