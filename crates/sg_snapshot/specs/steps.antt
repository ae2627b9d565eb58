-- What serves proofs alone: layouts by the words of their fields in each row, and what each point adds to the bytes of a part.
pub mod Laying
pub mod Asking
