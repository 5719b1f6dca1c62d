pub mod Common
pub mod Vision
pub mod Watching
pub mod Fogs
pub mod Keeping
pub mod Told
