pub mod Acted
pub mod RoundEnds
pub mod RoundLeads
pub mod Ruled
pub mod Small
pub mod Turns
pub mod WholeRound
