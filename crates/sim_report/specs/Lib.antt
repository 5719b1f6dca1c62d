pub mod Appending
pub mod Lines
pub mod Places
pub mod Refusals
pub mod Show
pub mod Downs
pub mod Parts
