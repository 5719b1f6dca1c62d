pub mod Trees
pub mod Tokens
pub mod Walks
pub mod Nodes
