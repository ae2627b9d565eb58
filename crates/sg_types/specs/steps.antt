-- What serves proofs alone: no clause of a call that others use names these.
pub mod Sizes
pub mod Standing
pub mod Views
pub mod Taking
