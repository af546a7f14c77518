pub mod Weighted
pub mod Sums
