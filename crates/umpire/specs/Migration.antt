-- What migrating to version 2 leaves, by what the reader gave and what the writer held.
use Rattle.std.specs.Prelude.{ℕ, Bool, List, Option, Result, Ok, Err}
use Rattle.std.specs.Io.KnownBytes.{Appends}
use Rattle.report.specs.Report.{refusal_line}
use Rattle.sheets.specs.File.{Content, IsAccepted, content_of}
use Rattle.sheets.specs.declared.fault.FileFault.{FileFault}
use Rattle.umpire.specs.Failure.{AppendsPrefix}
use Rattle.umpire.specs.Migrated.{migrated}
use Rattle.umpire.specs.Run.{IsFileOf, IsRefused, NeverUncertified, StopsBy}
use Rattle.umpire.specs.declared.fault.Fault.{Fault}

-- what is written of a file, by what it says: the migrated file, or the line that says why it is
-- refused
abbrev pub answer_to : List ℕ → Result Content FileFault → List ℕ
answer_to file (Ok content) = migrated file
answer_to file (Err fault) = refusal_line fault

-- what is written of a file
abbrev pub migration_of : List ℕ → List ℕ
migration_of file = answer_to file (content_of file)

-- the file is accepted, and the migrated file follows what the writer held
pub record IsMigrated (given old new : Option (List ℕ)) : Type 0 where
  pub file : List ℕ
  pub whole : IsFileOf given file
  pub accepted : IsAccepted file
  pub written : Appends old new (migrated file)

-- a prefix of what is written of the file, or nothing, follows what the writer held
pub record IsMigratedShort (given old new : Option (List ℕ)) : Type 0 where
  pub file : List ℕ
  pub whole : IsFileOf given file
  pub prefix : AppendsPrefix old new (migration_of file)

-- what a fault leaves of a migrated file
abbrev pub StopsMigration : Option (List ℕ) → Option (List ℕ) → Option (List ℕ) → Bool → Bool → Fault → Type 0
StopsMigration given old new =
    StopsBy (IsMigratedShort given old new) (IsRefused given old new) NeverUncertified old new
