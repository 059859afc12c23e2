-- What the proofs of the routes share.
mod LaneLemmas
mod RunSteps
mod Steps
