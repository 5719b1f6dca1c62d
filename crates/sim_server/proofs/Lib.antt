pub mod Common
pub mod Made
pub mod Whole
pub mod Smallness
pub mod Silence
pub mod Raw
