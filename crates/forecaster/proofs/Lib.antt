pub mod OneMore
pub mod Fitting
pub mod APiece
pub mod Unread
pub mod Whole
