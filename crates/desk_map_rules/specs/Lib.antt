-- Which rules of its kind a lay, a token or a run breaks.
pub mod Broken
pub mod LayAsked
pub mod MapAsked
pub mod RunAsked
pub mod RunTrack
