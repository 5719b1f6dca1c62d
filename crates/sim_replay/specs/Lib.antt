pub mod Logs
pub mod Apart
pub mod Meets
