pub mod Story
pub mod Flight
pub mod Told
pub mod Ends
pub mod OnTime
pub mod Parts
