pub mod Points
pub mod Stubs
pub mod Obeys
pub mod Replaced
pub mod Machines
pub mod Premises
