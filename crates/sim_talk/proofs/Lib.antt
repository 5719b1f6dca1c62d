pub mod Hearing
pub mod Keeping
pub mod Talking
pub mod Prompting
pub mod Reading
