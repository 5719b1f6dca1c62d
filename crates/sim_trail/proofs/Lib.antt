pub mod Merging
pub mod Examples
pub mod PlacedRows
