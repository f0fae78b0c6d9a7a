pub mod Threads
pub mod Runtime
pub mod Gates
