-- What a list of events says when it is looked back over, and the totals that say the same.
pub mod LookBack
pub mod Bids
pub mod Totals
pub mod Shares
pub mod Operating
pub mod Trains
pub mod Orders
pub mod Offers
pub mod AtEnd
