pub mod Linkable
