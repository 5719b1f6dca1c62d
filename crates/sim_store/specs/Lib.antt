pub mod Shelf
pub mod Held
pub mod Pieces
pub mod Sink
pub mod Reading
pub mod OpenFile
pub mod MemShelf
pub mod MemSink
