pub mod Common
pub mod Lines
pub mod Playing
pub mod Realms
pub mod Films
pub mod Paid
