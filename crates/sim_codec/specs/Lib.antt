pub mod Common
pub mod Reading
pub mod PartLaws
pub mod Taken
pub mod TakenLaws
pub mod Loading
pub mod Bits
pub mod Told
