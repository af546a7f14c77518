pub mod Sampling
pub mod Stores
