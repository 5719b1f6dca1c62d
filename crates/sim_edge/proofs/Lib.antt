pub mod Tries
pub mod Examples
pub mod Refusing
