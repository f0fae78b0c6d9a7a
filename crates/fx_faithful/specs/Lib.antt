pub mod Ends
pub mod Faith
