pub mod Drawings
pub mod LayerNumbers
