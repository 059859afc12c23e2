pub mod Marks
pub mod Crossed
pub mod Walked
pub mod Segments
pub mod Fit
pub mod Described
pub mod Legs
pub mod Spots
