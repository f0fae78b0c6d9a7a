pub mod Failures
pub mod Comes
pub mod Reports
pub mod Placing
pub mod Table
