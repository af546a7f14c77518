pub mod Decoding
pub mod Counts
pub mod Moving
pub mod Placing
pub mod OpenStep
