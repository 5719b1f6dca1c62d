mod Address
mod Parts
pub mod Mapped
pub mod Looked
