pub mod Limits
pub mod Bounds
pub mod Coord
pub mod Slices
pub mod Laws
