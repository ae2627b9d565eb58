-- What serves proofs alone: no clause of a call that others use names these.
pub mod Splitting
pub mod Along
pub mod Grouping
pub mod Leading
pub mod Beginning
