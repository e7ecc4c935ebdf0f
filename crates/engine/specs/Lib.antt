pub mod Feed
pub mod Rules
pub mod Meaning
pub mod Tables
pub mod Pieces
