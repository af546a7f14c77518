pub mod ARows
pub mod BRows
pub mod Tables
pub mod Nearest
pub mod Mirror
pub mod Outside
