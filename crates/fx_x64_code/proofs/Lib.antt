pub mod Numbers
pub mod Confirmed
pub mod Forms
pub mod Again
pub mod Fitting
pub mod Decoding
pub mod Lengths
