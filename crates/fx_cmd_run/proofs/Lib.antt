pub mod Late
pub mod Statuses
