pub mod Common
pub mod OwnedSoldiers
pub mod Examples
