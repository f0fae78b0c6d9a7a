pub mod Heights
pub mod Stacked
