pub mod Common
pub mod Frames
pub mod Telling
pub mod Conveying
