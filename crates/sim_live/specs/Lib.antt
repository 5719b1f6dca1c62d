pub mod Looks
pub mod Live
pub mod Shown
pub mod Answering
pub mod Reading
pub mod Arrived
pub mod Relays
