-- What the tables of the desk show.
pub mod Before
pub mod Cells
pub mod Earnings
pub mod Leaders
pub mod Rows
pub mod Stack
pub mod Standing
pub mod TableRows
