pub mod Labels
pub mod Lists
pub mod Products
