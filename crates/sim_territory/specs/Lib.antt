pub mod Common
pub mod Influence
pub mod Holders
pub mod Realms
pub mod Spans
pub mod Buildings
pub mod Tables
