pub mod NodeCodes
pub mod Libraries
pub mod Overlay
pub mod Resolution
