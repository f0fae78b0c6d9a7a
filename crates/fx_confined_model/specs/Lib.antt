pub mod Grants
pub mod Permitted
pub mod Spaces
