pub mod ItemLengths
pub mod Certified
pub mod TokenPlaces
