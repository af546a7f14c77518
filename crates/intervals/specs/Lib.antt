pub mod Table
pub mod Intervals
