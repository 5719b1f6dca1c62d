pub mod Common
pub mod Digesting
pub mod Following
pub mod Knowing
pub mod Standing
pub mod Spelled
pub mod SpellingWords
pub mod Small
