pub mod Common
pub mod Pipes
pub mod Posts
