pub mod Low
pub mod Nearest
