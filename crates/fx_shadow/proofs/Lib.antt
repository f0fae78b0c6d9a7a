pub mod Slots
pub mod Spans
pub mod Tried
