-- What serves proofs alone: no clause of a call that others use names these.
pub mod Kernels
pub mod Parts
pub mod Reads
pub mod Following
pub mod Taking
pub mod LongRuns
