pub mod Small
pub mod RoundOfTurns
pub mod Acted
pub mod Ruling
