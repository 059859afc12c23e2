pub mod PartLemmas
pub mod ReadLemmas
pub mod TextLemmas
pub mod WrittenLemmas
