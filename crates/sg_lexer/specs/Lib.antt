pub mod Limits
pub mod Alphabet
pub mod Lexing
pub mod Laws
