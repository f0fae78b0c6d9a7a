pub mod Mapped
pub mod Permits
pub mod Granting
pub mod Machines
pub mod Spaces
