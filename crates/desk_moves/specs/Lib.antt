-- What the desk says of moves.
pub mod Answers
pub mod BestRuns
pub mod BestTrains
pub mod Coming
pub mod Fault
pub mod HexFacts
pub mod Lines
pub mod Words
