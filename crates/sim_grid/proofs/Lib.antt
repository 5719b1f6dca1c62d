mod Words
pub mod Beside
pub mod Bits
