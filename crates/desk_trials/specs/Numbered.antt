-- The lines of a sheet that are numbered, where they are in the file. Of those past the 512th, which all have one fault, there
-- is only the first.
use Rattle.std.specs.Prelude.{ℕ, ◌+◌, Bool, ◌||◌, nat_le, if◌then◌else◌, List, [], ◌∷◌, ◌++◌}
use Rattle.desk_trials.specs.SheetFaults.{number_then}
use Rattle.desk_trials.specs.declared.check_lines.FileLine.{FileLine}
use Rattle.desk_trials.specs.declared.check_sheets.Head.{Head}
use Rattle.desk_trials.specs.SheetLike.{closes}
use Rattle.sheets.specs.Text.{is_blank, lines_of}

-- a line of the file: its number there, and its text
pub record LineAt : Type 0 where
  pub line : ℕ
  pub text : List ℕ

-- a line of the file that was read, as its number and its text
abbrev pub line_at : FileLine → LineAt
line_at line = record { line = line.number; text = line.text.now }

-- the sheet ends at a line, or was meant to, or so many of its lines came before that no further one is kept
abbrev pub ends_numbered : ℕ → List ℕ → Bool
ends_numbered count text = closes text || nat_le 513 count

-- the line with this number in the file, unless it is blank
abbrev pub numbered_here : ℕ → List ℕ → List LineAt
numbered_here line text = if is_blank text then [] else record { line = line; text = text } ∷ []

-- the lines of a sheet that are numbered, of those that are left, where this many were numbered and of the file this many came
unfoldable pub numbered_in : ℕ → ℕ → List (List ℕ) → List LineAt
numbered_in count passed [] = []
numbered_in count passed (text ∷ texts) =
    if ends_numbered count text
    then []
    else numbered_here (passed + 1) text ++ numbered_in (number_then count text) (passed + 1) texts

-- the lines of the sheet that a head begins
abbrev pub numbered_of : Head → List LineAt
numbered_of head = numbered_in 0 head.line.number (lines_of head.line.rest.now)
