pub mod Put
pub mod Digits
pub mod Words
pub mod Lines
pub mod Read
pub mod Nine
pub mod Trips
pub mod Examples
