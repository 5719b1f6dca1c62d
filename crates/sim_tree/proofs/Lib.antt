pub mod Common
pub mod Heights
pub mod Ascends
pub mod Steps
pub mod Examples
