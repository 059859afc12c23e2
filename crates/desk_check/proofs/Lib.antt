-- What the proofs of a look through a file share.
pub mod SaidLemmas
pub mod PlainLemmas
pub mod RefusedLemmas
pub mod RoundLemmas
