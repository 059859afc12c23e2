-- The files that trials play: an order file with an empty sheet at its end for some players. A later sheet replaces an earlier
-- one, so that the trial alone of a player's sheet does not look at those of others.
use Rattle.std.specs.Prelude.{◌≡◌, ◌≤◌, ℕ, ◌-◌, ◌==◌, Bool, false, not, if◌then◌else◌, List, [], ◌∷◌, ◌++◌, Option, Some, None, codes}
use Rattle.std.specs.Prelude.{is_none, length, slice_get, take, unwrap_or}
use Rattle.std.specs.List.{flat_map, range_with_len}
use Rattle.foresight.specs.declared.trial_file.Emptied.{Emptied}
use Rattle.foresight.specs.declared.trial_file.Emptied.TheVariants.{Others, Owing}
use Rattle.foresight.specs.declared.trial_file.TrialFile.{TrialFile}
use Rattle.order_grammar.specs.Print.{text_of_round}
use Rattle.sheets.specs.File.{players_of, sheet_of}
use Rattle.tables.specs.declared.round.Round.{Round}
use Rattle.tables.specs.declared.seat.Seat.{Seat}

-- a line that ends with this byte, if it has one, has no end
abbrev pub is_open : Option ℕ → Bool
is_open None = false
is_open (Some byte) = not (byte == 10)

-- the last line of a text has no end
abbrev pub has_open_line : List ℕ → Bool
has_open_line text = is_open (slice_get text (length text - 1))

-- a text whose last line has an end
abbrev pub with_line_end : List ℕ → List ℕ
with_line_end text = if has_open_line text then text ++ 10 ∷ [] else text

-- an empty sheet of the player of a seat for a round
abbrev pub empty_sheet : List ℕ → Round → ℕ → List ℕ
empty_sheet file round seat =
    codes "SHEET " ++ unwrap_or (slice_get (players_of file) seat) [] ++ 32 ∷ text_of_round round ++ 10 ∷ []

-- the player of a seat gets an empty sheet for a round: each other player does, or each who owes one
abbrev pub is_among : List ℕ → Round → Emptied → ℕ → Bool
is_among file round (Others tried) seat = not (seat == tried.0)
is_among file round Owing seat = is_none (sheet_of file seat round)

-- an empty sheet, if the player of a seat gets one
abbrev pub sheet_if : List ℕ → Round → Emptied → ℕ → List ℕ
sheet_if file round whose seat = if is_among file round whose seat then empty_sheet file round seat else []

-- those sheets, seat by seat
abbrev pub empty_sheets : List ℕ → Round → Emptied → List ℕ
empty_sheets file round whose = flat_map (sheet_if file round whose) (range_with_len 0 (length (players_of file)))

-- the file of the trial alone of the sheet of a seat for a round: the file, and an empty sheet of each other player
abbrev pub alone_file : List ℕ → Round → Seat → List ℕ
alone_file file round seat = with_line_end file ++ empty_sheets file round (Others seat)

-- the file of the trial of all sheets for a round that are there: the file, and an empty sheet of each player who owes one
abbrev pub tried_file : List ℕ → Round → List ℕ
tried_file file round = with_line_end file ++ empty_sheets file round Owing

-- a copy of a file is begun, which may have empty sheets behind it
pub record IsBegun (file : List ℕ) (trial : TrialFile) : Type 0 where
  pub within : trial.begun ≤ length trial.bytes.items
  pub copy : take trial.begun trial.bytes.items ≡ with_line_end file
