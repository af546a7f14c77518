pub mod Limits
pub mod Plan
pub mod Lawful
pub mod Verdict
