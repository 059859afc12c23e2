pub mod TextLemmas
pub mod PlayerLemmas
pub mod BodyLemmas
pub mod ReachLemmas
pub mod PostLemmas
pub mod KeptSheets
pub mod ContentLemmas
pub mod LawLemmas
pub mod AcceptedLemmas
pub mod NumberLemmas
pub mod GroupLemmas
pub mod TakenLemmas
pub mod Heads
pub mod PlainLemmas
mod BeforeLemmas
