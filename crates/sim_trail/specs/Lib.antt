pub mod Shifts
pub mod Merge
