-- What the desk tells of a round.
pub mod Change
pub mod Groups
pub mod RoundPart
pub mod RunsRound
