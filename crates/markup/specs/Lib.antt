-- What is written of elements, and what a reader finds.
pub mod Escaped
pub mod Part
pub mod Tags
pub mod Reading
pub mod Written
