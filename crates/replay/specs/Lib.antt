pub mod Classes
pub mod Shown
