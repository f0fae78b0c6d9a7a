pub mod Builds
pub mod Failures
