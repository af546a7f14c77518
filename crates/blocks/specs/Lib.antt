pub mod Rows
pub mod Words
pub mod Blocks
pub mod Trips
