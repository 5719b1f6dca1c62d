pub mod Common
pub mod Pasts
pub mod Clients
pub mod Sessions
pub mod Players
pub mod Marks
