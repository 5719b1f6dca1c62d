pub mod Boards
pub mod Hearing
pub mod Letting
