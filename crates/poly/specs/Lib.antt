pub mod Poly
pub mod Period
pub mod Rules
pub mod Claims
