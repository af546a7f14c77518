pub mod Judging
pub mod Reading
pub mod Apart
pub mod Counts
pub mod Plainly
pub mod Forecasts
pub mod Promise
pub mod Rows
