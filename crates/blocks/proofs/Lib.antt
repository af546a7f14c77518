pub mod Filled
pub mod Words
pub mod Taken
pub mod Whole
pub mod Trips
