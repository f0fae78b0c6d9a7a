pub mod Runs
pub mod Rounds
pub mod Keeping
pub mod Many
