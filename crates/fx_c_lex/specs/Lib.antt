pub mod Bytes
pub mod Words
pub mod Numbers
pub mod Quoted
pub mod Lexis
pub mod Reading
pub mod Laws
pub mod Terminals
