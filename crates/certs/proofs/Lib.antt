pub mod Games
mod RowLemmas
mod Moves
mod Transfers
pub mod Presidents
mod Counts
mod CompanyTableLemmas
pub mod ShareDeals
pub mod PresidesByGame
mod Others
mod Sales
pub mod SaleAllowed
pub mod Dividends
mod PaidOut
pub mod Succession
