-- What serves proofs alone: which statements can be lowered, and what a run of their code agrees on with their meaning.
pub mod Basis
pub mod Fitting
pub mod Agreeing
pub mod Using
pub mod Asking
pub mod Typing
