-- The lines of a file by their numbers in it, from 1, blank ones counted.
use Rattle.std.specs.Prelude.{◌≡◌, ◌+◌, [], ◌∷◌, Option, Some, None}
use Rattle.desk_trials.specs.declared.check_lines.FileLine.{FileLine}
use Rattle.desk_trials.specs.declared.check_lines.FileLines.{FileLines}
use Rattle.sheets.specs.Text.{lines_of}

-- this line comes next: it follows those that have passed, and those behind it are left
pub record IsNextLine (old : FileLines) (line : FileLine) (new : FileLines) : Type 0 where
  pub number : line.number ≡ old.passed + 1
  pub text : lines_of old.rest.now ≡ line.text.now ∷ lines_of line.rest.now
  pub from : line.from.now ≡ old.rest.now
  pub passed : new.passed ≡ line.number
  pub left : new.rest.now ≡ line.rest.now

-- the next line is taken, if there is one
abbrev pub TakesFileLine : FileLines → Option FileLine → FileLines → Type 0
TakesFileLine old None new = (old.rest.now ≡ []) × (new ≡ old)
TakesFileLine old (Some line) new = IsNextLine old line new
