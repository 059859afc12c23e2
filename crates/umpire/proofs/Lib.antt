pub mod Known
pub mod Stopping
pub mod Parts
pub mod UnreadParts
pub mod Files
pub mod PartingLemmas
pub mod GroupLemmas
pub mod WrittenLemmas
pub mod LawLemmas
pub mod CertsLemmas
pub mod VerifyLemmas
pub mod VerifierLemmas
pub mod Judged
mod WrittenLines
mod MarksLines
mod ReadAgain
mod Writable
mod AnsweredAgain
mod OneAnswer
mod GatherLemmas
mod EndedLines
mod MigratedLines
mod LinesInTwo
mod BodyLemmas
mod MigrationLemmas
mod HeaderLemmas
mod SheetsInTwo
mod GoneOver
mod PrintableLemmas
mod MigrationExamples
