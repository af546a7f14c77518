pub mod Outside
pub mod Lines
pub mod Older
