-- A game at the start of a turn of the round that comes, and the files of trials.
pub mod Draft
pub mod Ahead
pub mod Orders
pub mod FirstTurn
pub mod Turn
pub mod TrialFile
pub mod Reached
