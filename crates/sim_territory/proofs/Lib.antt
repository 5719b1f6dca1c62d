pub mod Common
pub mod Keeping
pub mod Holding
pub mod Moving
pub mod RowSteps
pub mod Following
pub mod Finding
pub mod Flooding
mod Examples
