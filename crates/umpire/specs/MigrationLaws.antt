-- Laws of migrating to version 2.
use Rattle.std.specs.Prelude.{◌≡◌, ◌↔◌, ℕ, ◌≤◌, List, ◌++◌, length, is_some, Err}
use Rattle.order_grammar.specs.declared.condition.Version.TheVariants.{Two}
use Rattle.report.specs.Report.{IsReport, game_line}
use Rattle.sheets.specs.File.{IsAccepted, content_of, players_of, sheet_of, unread_of, version_of}
use Rattle.sheets.specs.Laws.{SameParts}
use Rattle.sheets.specs.Limits.{file_most}
use Rattle.sheets.specs.declared.fault.FileFault.{FileFault}
use Rattle.tables.specs.declared.round.Round.{Round}
use Rattle.umpire.specs.Migrated.{migrated}

-- the migrated file stays as it is from then on
abbrev pub GoesOverOnce : Type 0
GoesOverOnce = (file : List ℕ) → migrated (migrated file) ≡ migrated file

-- the migrated file has no more bytes than the file
abbrev pub GrowsNoLonger : Type 0
GrowsNoLonger = (file : List ℕ) → length (migrated file) ≤ length file

-- a file of no more bytes than a file may have is refused by a fault exactly if the migrated file
-- is refused by that
abbrev pub RefusedAlike : Type 0
RefusedAlike = (file : List ℕ) (fault : FileFault) → length file ≤ file_most →
    (content_of (migrated file) ≡ Err fault) ↔ (content_of file ≡ Err fault)

-- the migrated file is a file of version 2 that says the same: its players, its unread lines, which
-- sheets there are and their parts
pub record SaysTheSame (file : List ℕ) : Type 0 where
  pub accepted : IsAccepted (migrated file)
  pub version : version_of (migrated file) ≡ Two
  pub players : players_of (migrated file) ≡ players_of file
  pub unread : unread_of (migrated file) ≡ unread_of file
  pub posted : (seat : ℕ) (round : Round) → is_some (sheet_of (migrated file) seat round)
      ≡ is_some (sheet_of file seat round)
  pub parts : SameParts (migrated file) file

-- a file that is not refused does so
abbrev pub AcceptedSaysTheSame : Type 0
AcceptedSaysTheSame = (file : List ℕ) → IsAccepted file → SaysTheSame file

-- the text has a first line with the version of the file; with version 2 in its place it is the
-- report of the migrated file
pub record IsReportOfBoth (file text : List ℕ) : Type 0 where
  pub rest : List ℕ
  pub is : text ≡ game_line (version_of file) ++ rest
  pub report : IsReport (migrated file) (game_line Two ++ rest)

-- the report of a file that is not refused is that of the migrated file, except for the version
abbrev pub MigrationChangesNoReport : Type 0
MigrationChangesNoReport = (file : List ℕ) → IsAccepted file → (text : List ℕ) → IsReport file text
    → IsReportOfBoth file text
