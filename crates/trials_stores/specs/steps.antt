-- What serves proofs alone.
pub mod Listed
