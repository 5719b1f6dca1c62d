pub mod Notes
pub mod Meanings
pub mod RigWords
