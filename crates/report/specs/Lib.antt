-- What a report is, from its columns and lines up to the whole text and its laws.
pub mod Column
pub mod Line
pub mod Statement
pub mod EndWorth
pub mod Report
pub mod Parts
pub mod Laws
