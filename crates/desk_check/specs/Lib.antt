-- What a look through an order file finds.
pub mod Looked
pub mod OrderSteps
pub mod PlainLines
pub mod Refused
pub mod Replaced
pub mod RoundsPlayed
pub mod SheetSaid
pub mod Unplayed
