pub mod Coming
pub mod Forward
pub mod OneGame
pub mod ReadAlike
pub mod Example
pub mod Growing
mod PlainRounds
pub mod OpeningGrows
mod StockGrows
mod OperatingGrows
pub mod RoundSteps
mod CompanyTurns
pub mod InSet
pub mod InOrder
mod OpeningSteps
mod EachGame
mod PlainGames
pub mod GameEnds
mod Calls
pub mod StepByStep
