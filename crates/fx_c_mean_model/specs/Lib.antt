pub mod Programs
pub mod Rights
pub mod States
pub mod Steps
pub mod Expected
pub mod Laws
