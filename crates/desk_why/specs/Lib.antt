-- Which lines of a round were refused, and what the desk tells of each: its rule, figures and cause.
pub mod Case
pub mod Cause
pub mod Detail
pub mod Done
pub mod Fallback
pub mod Figures
pub mod Refused
pub mod SheetLines
pub mod Track
pub mod Why
