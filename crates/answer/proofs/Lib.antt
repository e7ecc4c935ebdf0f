pub mod Ruled
