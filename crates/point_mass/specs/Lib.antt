pub mod Force
pub mod Low
pub mod Nearest
