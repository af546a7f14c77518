pub mod Arithmetic
pub mod Size
pub mod Sizes
pub mod Finite
pub mod Nine
pub mod Sampled
pub mod Doubles
