-- What serves proofs alone.
pub mod Counting
pub mod Moving
pub mod Parts
