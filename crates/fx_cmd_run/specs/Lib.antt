pub mod Causes
pub mod Comes
pub mod Lines
pub mod Reports
pub mod Verdicts
pub mod VerdictLines
