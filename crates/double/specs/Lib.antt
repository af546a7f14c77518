pub mod Doubles
pub mod Units
pub mod Fraction
pub mod Decimal
pub mod Nearest
