pub mod Trees
pub mod Programs
