pub mod Running
pub mod Placed
pub mod Singled
pub mod Shown
pub mod Migrated
pub mod Put
pub mod Saying
