pub mod Fitted
pub mod Started
pub mod Parity
