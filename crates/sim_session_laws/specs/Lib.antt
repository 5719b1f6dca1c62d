pub mod Standing
pub mod Reports
