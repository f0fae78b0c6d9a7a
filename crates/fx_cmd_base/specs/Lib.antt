pub mod Words
pub mod Views
pub mod RefusalWords
pub mod ProgramWords
pub mod Streams
pub mod Ends
pub mod Hex
