pub mod ClosedSides
pub mod Frames
pub mod Lanes
pub mod Looks
pub mod Names
pub mod Points
pub mod Curves
