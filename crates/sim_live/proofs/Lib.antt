pub mod Answered
pub mod Asked
pub mod Relayed
pub mod Seen
