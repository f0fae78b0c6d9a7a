pub mod Laws
pub mod Granules
pub mod Permits
pub mod Table
pub mod PlacementLaw
