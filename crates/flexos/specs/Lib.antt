pub mod Words
pub mod Texts
pub mod Runs
pub mod Places
pub mod Singles
pub mod Table
