-- What serves proofs alone: what is ready to land, the states on the way, and the next number in a list.
pub mod Ready
pub mod Passing
pub mod Next
