-- What serves proofs alone.
pub mod Counted
