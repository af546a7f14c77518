pub mod Conditions
pub mod Usual
