pub mod Common
pub mod Counting
mod Resting
mod Stretches
