-- A game as the list of its events: what follows from the list alone, and when a list is sound.
pub mod BoxedTotals
pub mod Record
pub mod Conditions
pub mod Sound
pub mod Games
pub mod Laws
pub mod Money
