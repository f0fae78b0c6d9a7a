pub mod Texts
pub mod Laws
pub mod Strings
pub mod StringLaws
