pub mod Named
pub mod Reading
pub mod Parsing
pub mod Loading
pub mod Errors
pub mod Programs
