pub mod Common
pub mod Refusals
pub mod Setups
pub mod Crowds
