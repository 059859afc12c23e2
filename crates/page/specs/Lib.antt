pub mod ChartToken
pub mod Checksum
pub mod Due
pub mod Phases
pub mod Revenue
pub mod ShownRows
pub mod WorthHistory
