-- What is told of a line before a round, and the report of the file with the line.
pub mod LineFile
pub mod OfferFile
pub mod Reported
pub mod Moves
pub mod TurnRows
pub mod StandingRows
pub mod CompanyLines
pub mod CompanyRows
pub mod OfferedRows
pub mod LinesTold
pub mod LaysTold
