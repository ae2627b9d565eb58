-- What serves proofs alone: the walk of index words to their place and what is set before an instruction.
pub mod Walks
pub mod Targets
pub mod Scopes
pub mod Frames
