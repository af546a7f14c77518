pub mod Interpolation
