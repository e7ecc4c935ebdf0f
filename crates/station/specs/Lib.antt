pub mod Layout
pub mod Book
pub mod Frame
pub mod Calls
pub mod Items
pub mod Parts
pub mod Fitting
pub mod Outcomes
