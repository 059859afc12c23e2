-- The good SHEET lines of a file: whose sheet for which round each begins, where it is, and which
-- line's sheet it replaces.
use Rattle.std.specs.Prelude.{◌≡◌, ℕ, zero, suc, ◌+◌, ◌==◌, Bool, true, false, if◌then◌else◌, List, [], ◌∷◌, ◌++◌}
use Rattle.std.specs.Prelude.{Option, Some, None, max, nat_lt, ⊤}
use Rattle.std.specs.Option.{option_or}
use Rattle.desk_trials.specs.declared.check_sheets.Beginning.{Beginning}
use Rattle.desk_trials.specs.declared.check_sheets.Beginning.TheVariants.{Sheet, Closing, Other}
use Rattle.desk_trials.specs.declared.check_sheets.Head.{Head}
use Rattle.sheets.specs.File.{begins, is_sheet_line, sheet_key_at, same_sheet_key}
use Rattle.sheets.specs.declared.sheet_key.SheetKey.{SheetKey}
use Rattle.tables.specs.declared.round.Round.{Round}

-- what a line begins: a sheet; nothing, though it is a SHEET line; or it is none
abbrev pub Begins : List (List ℕ) → List ℕ → Beginning → Type 0
Begins players line (Sheet sent) = begins players line ≡ Some sent
Begins players line Closing = (is_sheet_line line ≡ true) × (begins players line ≡ None)
Begins players line Other = (is_sheet_line line ≡ false) × (begins players line ≡ None)

-- a line that begins a sheet, and its number in the file
pub record HeadAt : Type 0 where
  pub line : ℕ
  pub sheet_key : SheetKey

-- the line with this number, if it begins a sheet
abbrev pub head_here : ℕ → Option SheetKey → List HeadAt
head_here number None = []
head_here number (Some sheet_key) = record { line = number; sheet_key = sheet_key } ∷ []

-- those of some lines that begin sheets, where this many came before
abbrev pub heads_in : List (List ℕ) → ℕ → List (List ℕ) → List HeadAt
heads_in players passed [] = []
heads_in players passed (line ∷ lines) =
    head_here (passed + 1) (begins players line) ++ heads_in players (passed + 1) lines

-- a head that was kept, with the number of its line
abbrev pub head_at : Head → HeadAt
head_at head = record { line = head.line.number; sheet_key = head.sent }

-- the last of some heads that begins this sheet
abbrev pub last_line : SheetKey → List HeadAt → Option ℕ
last_line sheet_key [] = None
last_line sheet_key (head ∷ heads) =
    option_or (last_line sheet_key heads) (if same_sheet_key head.sheet_key sheet_key then Some head.line else None)

-- the first that does
abbrev pub first_line : SheetKey → List HeadAt → Option ℕ
first_line sheet_key [] = None
first_line sheet_key (head ∷ heads) = if same_sheet_key head.sheet_key sheet_key then Some head.line else first_line
    sheet_key heads

-- the later of two lines, if there are both
abbrev pub later_of : Option ℕ → Option ℕ → Option ℕ
later_of None other = None
later_of (Some a) None = None
later_of (Some a) (Some b) = Some (max a b)

-- the line by which each of this many players had a sheet for a round: the latest of those with
-- which a player's first came
abbrev pub complete_by : ℕ → Round → List HeadAt → Option ℕ
complete_by zero round heads = Some 0
complete_by (suc seats) round heads = later_of (complete_by seats round heads)
    (first_line (sheet_key_at seats round) heads)

-- this is the line
abbrev pub is_at : Option ℕ → ℕ → Bool
is_at None number = false
is_at (Some line) number = line == number

-- the line comes before this one
abbrev pub is_under : Option ℕ → ℕ → Bool
is_under None number = false
is_under (Some line) number = nat_lt line number

-- each of some heads replaces the sheet that the last before it began for the same player and round
abbrev pub ReplaceTheLast : List HeadAt → List Head → Type 0
ReplaceTheLast before [] = ⊤
ReplaceTheLast before (head ∷ heads) =
    (head.replaces ≡ last_line head.sent before) × ReplaceTheLast (before ++ head_at head ∷ []) heads
