pub mod Values
pub mod Keys
pub mod Commands
pub mod Readers
