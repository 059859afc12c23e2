pub mod MapState
pub mod Fit
