pub mod Words
pub mod Sums
pub mod Shifts
pub mod Products
pub mod Quotients
