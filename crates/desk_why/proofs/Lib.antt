-- What the proofs of the lines of the sheets share.
mod SheetSteps
