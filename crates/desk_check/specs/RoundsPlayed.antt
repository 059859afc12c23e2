-- Which rounds of a game were played, and by which line of the file every player had a sheet for a
-- round and for each round of the game before it.
use Rattle.std.specs.Prelude.{◌≡◌, ℕ, Bool, List, [], ◌∷◌, ◌++◌, Option, Some, None, is_some, max, unwrap_or}
use Rattle.std.specs.Prelude.{if◌then◌else◌}
use Rattle.std.specs.HashMap.{get}
use Rattle.std.specs.List.{list_any}
use Rattle.std.specs.Option.{option_or}
use Rattle.desk_check.specs.declared.check_late.Rounds.{Rounds}
use Rattle.desk_trials.specs.Heads.{came}
use Rattle.desk_trials.specs.SheetLines.{HeadAt, complete_by}
use Rattle.desk_trials.specs.declared.check_sheets.Heads.{Heads}
use Rattle.events.specs.declared.event.Event.{Event}
use Rattle.rounds.specs.Begun.{rounds_begun}
use Rattle.tables.specs.Round.{same_round}
use Rattle.tables.specs.declared.round.Round.{Round}

-- the events begin the round
abbrev pub is_begun : List Event → Round → Bool
is_begun events round = list_any (λ begun. same_round begun round) (rounds_begun events)

-- the line by which this many players had sheets for a round too, where by a line they had those
-- for the rounds before
abbrev pub by_with : ℕ → List HeadAt → ℕ → Round → ℕ
by_with seats heads by round = max (unwrap_or (complete_by seats round heads) 0) by

-- and for these rounds, one after the other
abbrev pub by_then : ℕ → List HeadAt → ℕ → List Round → ℕ
by_then seats heads by [] = by
by_then seats heads by (round ∷ rounds) = by_then seats heads (by_with seats heads by round) rounds

-- the line by which they had those for a round and for each of these rounds before it, if it is one
-- of these
abbrev pub ready_among : ℕ → List HeadAt → ℕ → List Round → Round → Option ℕ
ready_among seats heads by [] round = None
ready_among seats heads by (first ∷ rounds) round =
    let now = by_with seats heads by first in
    option_or (ready_among seats heads now rounds round) (if same_round first round then Some now else None)

-- the line by which every player had a sheet for a round and for each round of a game before it, if
-- that is played
abbrev pub ready_by : Heads → List Event → Round → Option ℕ
ready_by heads events round = ready_among heads.seats (came heads) 0 (rounds_begun events) round

-- the line that is kept of a round
abbrev pub line_kept : Rounds → Round → Option ℕ
line_kept rounds round = get same_round rounds.lines round

-- the round is kept
abbrev pub is_kept : Rounds → Round → Bool
is_kept rounds round = is_some (line_kept rounds round)

-- the rounds are those that the events of a game begin, each with its line
pub record AreRoundsOf (heads : Heads) (rounds : Rounds) (events : List Event) : Type 0 where
  pub begun : (round : Round) → is_kept rounds round ≡ is_begun events round
  pub ready : (round : Round) → line_kept rounds round ≡ ready_by heads events round
  pub by : rounds.by ≡ by_then heads.seats (came heads) 0 (rounds_begun events)

-- one more event is applied
abbrev pub AppliesEvent : Heads → Rounds → Event → Rounds → Type 0
AppliesEvent heads old event new =
    (events : List Event) → AreRoundsOf heads old events → AreRoundsOf heads new (events ++ event ∷ [])
