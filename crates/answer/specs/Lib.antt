pub mod Refusal
pub mod Rules
pub mod Shown
