pub mod Used
pub mod Rooms
pub mod Offsets
pub mod Counts
pub mod Examples
pub mod Tried
