-- The proofs of this crate stand in the folders of its functions, and lemmas that they share here.
pub mod ChoiceLemmas
