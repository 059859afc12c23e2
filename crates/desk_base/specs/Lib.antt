-- What the desk's libraries share.
pub mod Belongings
pub mod Beyond
pub mod Cause
pub mod Coming
pub mod Fault
pub mod Laid
pub mod Moments
pub mod Objections
pub mod Played
pub mod Positions
pub mod Reason
pub mod Refusal
pub mod SetNumber
pub mod StockLeft
pub mod Stopped
