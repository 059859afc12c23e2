-- What happens in a game: each event with its aspects, rulings, and how an event keeps one.
pub mod PackedPlace
pub mod PackedRun
pub mod Packed
pub mod RulingText
pub mod Event
pub mod RuleCodes
pub mod Orders
pub mod Offers
