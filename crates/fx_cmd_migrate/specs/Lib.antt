pub mod Failures
pub mod Migrates
