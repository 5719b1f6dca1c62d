pub mod Difference
pub mod Merge
