pub mod Arrivals
pub mod StepLists
pub mod Meets
