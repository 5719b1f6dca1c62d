pub mod Common
pub mod Past
pub mod PlayLines
pub mod Playing
pub mod Starting
pub mod PlayerLines
pub mod PaidOnes
pub mod LogTurns
