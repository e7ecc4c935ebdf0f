pub mod Sixteen
pub mod Chunks
pub mod Filling
