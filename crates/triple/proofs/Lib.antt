pub mod Tests
pub mod Finite
pub mod Zeros
pub mod Signs
pub mod Sizes
