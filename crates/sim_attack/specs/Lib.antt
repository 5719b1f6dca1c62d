pub mod Finds
pub mod Fights
