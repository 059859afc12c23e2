-- Lines of which there is nothing to say, as their first bytes show: they are no SHEET lines and do not look like mail.
use Rattle.std.specs.Prelude.{◌≡◌, ℕ, ◌<◌, ◌≤◌, ◌==◌, Bool, false, not, ◌&&◌, List, [], ◌∷◌, Option, Some, None, length}
use Rattle.std.specs.Char.{to_ascii_uppercase}
use Rattle.desk_trials.specs.Mail.{is_mail}
use Rattle.desk_trials.specs.SheetLines.{HeadAt, head_here, heads_in}
use Rattle.desk_trials.specs.declared.check_lines.FileLine.{FileLine}
use Rattle.desk_trials.specs.declared.check_lines.FileLines.{FileLines}
use Rattle.sheets.specs.File.{begins}
use Rattle.sheets.specs.Text.{lines_of}

-- a byte with which no SHEET line and no line that looks like mail begins: it is no space, no S in either case, and none of
-- F, T, C, D, M, O, `>`, `|` and `-`
abbrev pub is_plain_start : ℕ → Bool
is_plain_start byte =
    not (byte == 32)
    && (not (to_ascii_uppercase byte == 83)
    && (not (byte == 70)
    && (not (byte == 84)
    && (not (byte == 67)
    && (not (byte == 68)
    && (not (byte == 77) && (not (byte == 79) && (not (byte == 62) && (not (byte == 124) && not (byte == 45))))))))))

-- a line begins no sheet, and does not look like mail
pub record IsPlain (line : List ℕ) : Type 0 where
  pub no_head : (players : List (List ℕ)) → begins players line ≡ None
  pub no_mail : is_mail line ≡ false

-- the first line of a text is such a line, and this follows it
pub record IsBehindPlain (text rest : List ℕ) : Type 0 where
  pub line : List ℕ
  pub plain : IsPlain line
  pub lines : lines_of text ≡ line ∷ lines_of rest
  pub shorter : length rest < length text

-- the lines that are left begin these sheets
abbrev pub heads_left : List (List ℕ) → FileLines → List HeadAt
heads_left players lines = heads_in players lines.passed (lines_of lines.rest.now)

-- a line begins this sheet, if there is a line
abbrev pub head_on : List (List ℕ) → Option FileLine → List HeadAt
head_on players None = []
head_on players (Some line) = head_here line.number (begins players line.text.now)

-- some lines are passed over, of which none begins a sheet
pub record IsPassed (old new : FileLines) : Type 0 where
  pub heads : (players : List (List ℕ)) → heads_left players new ≡ heads_left players old
  pub shorter : length new.rest.now ≤ length old.rest.now
