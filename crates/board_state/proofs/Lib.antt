pub mod Same
pub mod Positions
pub mod Tokens
pub mod Tiles
pub mod Lawfulness
pub mod Fitting
pub mod Parts
