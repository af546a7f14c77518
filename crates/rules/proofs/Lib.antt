pub mod Rest
pub mod Loops
pub mod Bridge
pub mod Calls
pub mod Follows
pub mod Open
pub mod Asked
