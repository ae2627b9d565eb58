-- What serves proofs alone: blocks of points, by which closures and needs are computed, and the words of a field.
pub mod Blocks
pub mod Landing
