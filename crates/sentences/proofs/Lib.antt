pub mod Nans
pub mod Places
pub mod Strict
pub mod Inner
pub mod Zeros
pub mod Own
