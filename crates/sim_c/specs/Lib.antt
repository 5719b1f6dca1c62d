pub mod Gives
pub mod GivesRun
pub mod Owned
pub mod Clients
pub mod Servers
