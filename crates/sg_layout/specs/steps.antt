-- What serves proofs alone: what a layout keeps, and words counted node by node.
pub mod Measuring
pub mod WordSteps
