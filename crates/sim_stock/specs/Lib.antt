pub mod Economies
pub mod PaidTurns
pub mod Meets
