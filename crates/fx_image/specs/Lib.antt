pub mod Spelling
pub mod Keys
pub mod Layout
pub mod Rules
pub mod ImageBytes
pub mod Reading
pub mod Fits
