pub mod Chains
pub mod Bounds
pub mod Told
pub mod Resting
