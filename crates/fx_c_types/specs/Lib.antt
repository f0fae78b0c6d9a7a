pub mod Answers
pub mod Programs
pub mod ProgramView
pub mod WellTyped
