pub mod Soundness
pub mod Lacking
pub mod Walking
