pub mod Again
pub mod Answers
pub mod Known
pub mod Process
pub mod Run
pub mod Words
pub mod Endings
pub mod Talked
