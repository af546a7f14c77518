pub mod Layout
pub mod Content
pub mod Taken
pub mod Unused
pub mod Stored
pub mod Trips
