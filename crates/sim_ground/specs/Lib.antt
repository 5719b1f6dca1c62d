pub mod Cells
pub mod Closing
pub mod Covering
pub mod Opening
pub mod Layers
pub mod Mending
