pub mod Flips
pub mod Words
pub mod Digits
pub mod Tuples
