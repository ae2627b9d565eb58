pub mod Chunks
pub mod ChunkLaws
pub mod Examples
pub mod Raising
pub mod LengthRace
pub mod LengthLaws
pub mod steps
