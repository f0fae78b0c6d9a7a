pub mod Codes
pub mod Spelling
pub mod Guess
pub mod Decoded
pub mod Laws
