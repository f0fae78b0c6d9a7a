pub mod Answers
pub mod Document
pub mod Names
pub mod Reading
pub mod TopView
