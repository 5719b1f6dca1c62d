pub mod Kept
pub mod StageWords
pub mod Lives
pub mod ClientWords
