pub mod Lists
pub mod Words
pub mod Lines
pub mod Text
pub mod Failures
pub mod Shows
