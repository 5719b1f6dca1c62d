pub mod WayLaws
pub mod StateLaws
pub mod NumberLaws
pub mod TurnLaws
pub mod PhaseLaws
