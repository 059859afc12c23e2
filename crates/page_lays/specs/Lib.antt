-- What may be done, on the page of a game.
pub mod Allowed
pub mod Earned
pub mod MoveRows
pub mod NextRound
pub mod Players
pub mod Turns
