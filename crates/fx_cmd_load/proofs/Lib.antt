pub mod Few
pub mod Stages
pub mod Trees
pub mod Work
pub mod Counting
pub mod Causes
