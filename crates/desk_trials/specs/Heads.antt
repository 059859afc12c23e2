-- What is kept of the good SHEET lines that have come.
use Rattle.std.specs.Prelude.{◌≡◌, ◌≤◌, List, [], ◌∷◌, ◌++◌, map}
use Rattle.std.specs.HashMap.{get}
use Rattle.desk_trials.specs.SheetLines.{HeadAt, ReplaceTheLast, first_line, head_at, last_line}
use Rattle.desk_trials.specs.declared.check_lines.FileLine.{FileLine}
use Rattle.desk_trials.specs.declared.check_sheets.Heads.{Heads}
use Rattle.sheets.specs.declared.sheet_key.SheetKey.{SheetKey}
use Rattle.sheets.specs.File.{same_sheet_key}

-- the heads that came, in the order of the file
abbrev pub came : Heads → List HeadAt
came heads = map head_at heads.heads.items

-- the lines are the first of these heads that begin each sheet
abbrev pub FirstsAre : Heads → List HeadAt → Type 0
FirstsAre kept heads = (sent : SheetKey) → get same_sheet_key kept.first sent ≡ first_line sent heads

-- what is kept of them, in a game of at most six: the lines of the first and of the last that begin
-- a sheet, and the sheet that each replaces
pub record AreKept (heads : Heads) : Type 0 where
  pub few : heads.seats ≤ 6
  pub firsts : FirstsAre heads (came heads)
  pub lasts : (sent : SheetKey) → get same_sheet_key heads.last sent ≡ last_line sent (came heads)
  pub replaced : ReplaceTheLast [] heads.heads.items

-- the heads that came before, and the one on this line, which begins this sheet
abbrev pub with_head : List HeadAt → FileLine → SheetKey → List HeadAt
with_head heads line sent = heads ++ record { line = line.number; sheet_key = sent } ∷ []
