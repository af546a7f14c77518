pub mod Scale
pub mod Values
pub mod Exact
pub mod Quotient
pub mod Short
pub mod Integers
pub mod Along
