pub mod Taken
pub mod SameAnswer
