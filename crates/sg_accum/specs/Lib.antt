pub mod Parts
pub mod Folding
pub mod AccRace
pub mod AccLaws
pub mod steps
