pub mod Common
pub mod LeastPlace
pub mod OneSpelling
pub mod Examples
