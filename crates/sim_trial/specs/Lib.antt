pub mod Trial
pub mod Owned
