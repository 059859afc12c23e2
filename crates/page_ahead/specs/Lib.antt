pub mod CellWords
pub mod Runners
pub mod Told
