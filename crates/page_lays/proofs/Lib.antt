-- Lemmas on turns, and on the round that comes.
pub mod NextRoundLemmas
pub mod TurnLemmas
