-- What the desk says that a player may do.
pub mod CompanyTold
pub mod Offerers
pub mod OpeningTold
pub mod OperatingLines
pub mod RaiseRows
pub mod RowLines
pub mod SheetLines
pub mod StockTold
pub mod Told
