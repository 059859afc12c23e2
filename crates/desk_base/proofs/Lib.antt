-- What the proofs of the desk's libraries share.
pub mod BestRuns
pub mod ComingLemmas
pub mod Laid
pub mod MomentLemmas
pub mod PlayedLemmas
pub mod PositionLemmas
pub mod Refusals
pub mod SetLemmas
mod ReasonLemmas
