pub mod Known
pub mod Ends
pub mod Heads
pub mod Bodies
pub mod Jumps
pub mod Programs
pub mod Facts
