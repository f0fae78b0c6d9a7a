pub mod Lines
pub mod Causes
pub mod Builds
pub mod Runs
pub mod Reports
pub mod Does
pub mod Moments
pub mod Any
