pub mod ClassLemmas
pub mod ShownLemmas
