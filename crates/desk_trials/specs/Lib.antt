-- What the trials of a file refuse, and what is found in it.
pub mod Changed
pub mod Consent
pub mod Facts
pub mod FileLines
pub mod Found
pub mod Heads
pub mod Mail
pub mod Numbered
pub mod Reasons
pub mod Refusals
pub mod SheetFaults
pub mod SheetLike
pub mod SheetLines
pub mod Taken
pub mod Trials
