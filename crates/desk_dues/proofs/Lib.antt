-- What the proofs of this crate share.
pub mod Falls
pub mod Loops
pub mod Numbers
pub mod Colours
