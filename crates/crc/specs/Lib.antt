pub mod Admitted
pub mod Form
