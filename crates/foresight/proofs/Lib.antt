pub mod TurnsAhead
pub mod Ended
pub mod Passing
pub mod TrialFileLemmas
pub mod ReachedLemmas
pub mod PlayedLemmas
