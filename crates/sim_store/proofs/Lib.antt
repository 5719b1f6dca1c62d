pub mod Pieces
pub mod Kept
pub mod Given
pub mod Examples
