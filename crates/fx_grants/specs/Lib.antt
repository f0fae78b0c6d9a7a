pub mod Sets
pub mod Uses
pub mod Homes
pub mod GrantSets
pub mod Refusals
pub mod Laws
