-- What the proofs of the trials, and of the lines that they refuse, share.
pub mod HeadLemmas
pub mod NumberedLemmas
