pub mod Paths
pub mod Clockwork
pub mod Counting
pub mod Runs
pub mod Rooms
pub mod Starred
pub mod Year
