pub mod ListedLemmas
pub mod LeastBid
pub mod ExactLemmas
pub mod TurnLemmas
pub mod RowLemmas
mod ParRows
pub mod LimitLemmas
pub mod RowRulings
pub mod OneMoreRuling
pub mod ConsentGiven
pub mod PricesMove
