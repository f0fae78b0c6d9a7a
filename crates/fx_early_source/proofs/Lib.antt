pub mod Fronts
pub mod Statements
pub mod Laws
pub mod Whole
