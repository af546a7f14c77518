pub mod Wholes
pub mod Costs
pub mod Countable
pub mod Start
pub mod Promise
pub mod Rows
