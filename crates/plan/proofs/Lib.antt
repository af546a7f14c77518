pub mod Verdicts
pub mod Dates
