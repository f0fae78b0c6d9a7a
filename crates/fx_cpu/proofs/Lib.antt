pub mod FetchLemmas
pub mod Memory
pub mod FreeSteps
pub mod Accesses
pub mod Slots
pub mod FlatLemmas
