pub mod Rules
pub mod Walk
pub mod Follows
pub mod Asked
