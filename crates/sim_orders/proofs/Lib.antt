pub mod Common
pub mod Halves
pub mod Planning
pub mod Spots
