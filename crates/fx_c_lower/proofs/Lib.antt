pub mod Fors
