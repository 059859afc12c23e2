mod BordersPair
mod FewPieces
mod HexAt
pub mod Searches
pub mod HexTables
mod LinksInOrder
mod Ordering
mod SamePrint
pub mod ListedOnce
mod TileTables
mod Turning
mod Turns
mod Values
pub mod Texts
mod Neighbours
pub mod NothingFits
