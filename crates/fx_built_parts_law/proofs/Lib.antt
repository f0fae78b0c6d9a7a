pub mod Sizes
pub mod Counted
pub mod Records
pub mod Homes
pub mod Inside
pub mod Whole
