pub mod Walks
pub mod Rights
pub mod Laws
