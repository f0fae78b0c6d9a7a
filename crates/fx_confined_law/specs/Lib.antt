pub mod Confined
pub mod Machines
pub mod Premises
