pub mod Lanes
pub mod LastRuns
pub mod ShownRuns
