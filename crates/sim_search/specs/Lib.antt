pub mod Common
pub mod Queues
pub mod Floods
pub mod Moves
pub mod Estimates
pub mod Rows
