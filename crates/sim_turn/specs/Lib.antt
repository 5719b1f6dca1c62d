pub mod Phases
pub mod Resting
pub mod Turns
