pub mod Chains
pub mod First
pub mod Differs
pub mod Places
pub mod Writing
pub mod Sealed
pub mod Admission
