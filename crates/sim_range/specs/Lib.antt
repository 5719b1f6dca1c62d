pub mod Common
pub mod Buckets
pub mod Sights
pub mod RangeWords
