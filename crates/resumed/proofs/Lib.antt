pub mod Fitting
pub mod Good
pub mod Going
pub mod Machine
pub mod Points
pub mod Same
pub mod Lines
pub mod Older
