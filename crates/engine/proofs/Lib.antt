pub mod Feeding
pub mod TableSums
pub mod Below
pub mod Numbers
pub mod Masks
pub mod Aligned
