pub mod Cells
pub mod Callers
pub mod Rounds
pub mod Woken
pub mod Steady
mod Denied
