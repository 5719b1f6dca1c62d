pub mod Clients
pub mod Hearing
pub mod Servers
pub mod Games
