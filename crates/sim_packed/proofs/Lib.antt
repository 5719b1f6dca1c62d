pub mod Unpacking
pub mod Packed
pub mod Outs
