pub mod Lengths
pub mod Calm
pub mod Rules
pub mod Places
pub mod Turns
pub mod Law
pub mod Written
