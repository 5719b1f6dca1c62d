pub mod Common
pub mod Balances
mod Examples
pub mod Paying
mod Runs
mod Stretches
