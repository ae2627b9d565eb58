mod Numbers
pub mod Prefixes
mod Passing
mod Tables
mod Texts
mod Fronts
mod Returning
mod Walks
mod Uniqueness
mod Rereading
