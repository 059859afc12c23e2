-- What a trial of sheets plays, and which lines of a sheet it refuses.
use Rattle.std.specs.Prelude.{◌≡◌, ℕ, Bool, ◌&&◌, ◌||◌, nat_le, if◌then◌else◌, List, [], ◌∷◌, Option, Some, None, length}
use Rattle.std.specs.List.{flat_map}
use Rattle.desk_trials.specs.Heads.{came}
use Rattle.desk_trials.specs.Refusals.{refused_of}
use Rattle.desk_trials.specs.SheetLines.{is_at, last_line}
use Rattle.desk_trials.specs.declared.check_sheets.Head.{Head}
use Rattle.desk_trials.specs.declared.check_sheets.Heads.{Heads}
use Rattle.sheets.specs.declared.sheet_key.SheetKey.{SheetKey}
use Rattle.desk_trials.specs.declared.trials.Tried.{Tried}
use Rattle.rounds.specs.Play.{IsTheGame}
use Rattle.sheets.specs.Limits.{file_most, sheets_most}
use Rattle.tables.specs.Round.{same_round}
use Rattle.tables.specs.declared.round.Round.{Round}

-- a head begins a sheet for this round on this line of the file or below it, and no later sheet replaces it
abbrev pub is_for : Heads → Round → ℕ → Head → Bool
is_for heads round from head =
    same_round head.sent.round round
    && (nat_le from head.line.number && is_at (last_line head.sent (came heads)) head.line.number)

-- a head, if it does
abbrev pub head_if : Heads → Round → ℕ → Head → List Head
head_if heads round from head = if is_for heads round from head then head ∷ [] else []

-- the heads that do
abbrev pub sheets_for : Heads → Round → ℕ → List Head
sheets_for heads round from = flat_map (head_if heads round from) heads.heads.items

-- those of the round that is tried as if it were to come, if there is one
abbrev pub awaited_of : Heads → Option Round → List Head
awaited_of heads None = []
awaited_of heads (Some round) = sheets_for heads round 0

-- the file has no room for one sheet more
abbrev pub has_no_room : List ℕ → Heads → Bool
has_no_room file heads = nat_le file_most (length file) || nat_le sheets_most (length heads.heads.items)

-- the trial plays the game of its file; its rows are the lines of a sheet that were refused in that game, but not for their
-- condition, or have a fault
pub record IsTried (file : List ℕ) (sent : SheetKey) (tried : Tried) : Type 0 where
  pub of_file : tried.game.file ≡ file
  pub game : IsTheGame tried.game
  pub rows : tried.rows.items ≡ refused_of sent tried.game.game.events
