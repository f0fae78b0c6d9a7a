pub mod Runs
pub mod Statuses
pub mod Telling
pub mod Serving
pub mod Stepped
pub mod Moments
pub mod Views
