-- A seat behind the lines of its first turn of a round that comes, in which no other seat has a
-- sheet. First comes the ROUND event, then the standing lines of the seat's own sheet. Then each
-- seat before it passes, from the holder of priority to the left. Last come the lines of the first
-- written turn of its sheet.
use Rattle.std.specs.Prelude.{◌≡◌, ℕ, zero, suc, ◌<◌, List, [], ◌∷◌, ◌++◌}
use Rattle.events.specs.declared.event.Event.{Event}
use Rattle.events.specs.declared.event.Event.TheVariants as event
use Rattle.totals.specs.LookBack.{Game, priority_of}
use Rattle.sheets.specs.Part.{Numbered, parts_for, written_turns_of}
use Rattle.sheets.specs.Taken.{after_lines_before}
use Rattle.tables.specs.Seat.{left_of}
use Rattle.tables.specs.Steps.{iterate}
use Rattle.tables.specs.Turns.{next_written_turn}
use Rattle.tables.specs.declared.round.Round.{Round}
use Rattle.tables.specs.declared.seat.Seat.{Seat}
use Rattle.turns.specs.RoundOfTurns.{RoundRules, after_written_turn, in_turn}

-- the seat whose turn it is once this many have passed, the first of them being this one
abbrev pub seat_after : ℕ → Seat → ℕ → Seat
seat_after seats first count = iterate (left_of seats) count first

-- after this many seats have passed
abbrev pub after_passes : ℕ → Seat → List Event → ℕ → List Event
after_passes seats first events zero = events
after_passes seats first events (suc count) =
    after_passes seats first events count ++ event.Passes (seat_after seats first count) ∷ []

-- the round has begun, and the standing lines of a seat's sheet are ruled
abbrev pub begun_for : {TurnActions : Type 0} → RoundRules TurnActions → List ℕ → Round → Seat → List Event
    → List Event
begun_for rules file round seat events =
    after_lines_before rules.standing file round (events ++ event.Round round ∷ []) seat.0

-- the lines of the first written turn of a seat's sheet; there are none without one
abbrev pub first_lines : List ℕ → Round → Seat → List Numbered
first_lines file round seat = next_written_turn (written_turns_of (parts_for file round seat.0))

-- it is a seat's turn, once those before it have passed
pub record IsTheirTurn (seats : ℕ) (first seat : Seat) (old new : List Event) : Type 0 where
  pub count : ℕ
  pub few : count < seats
  pub its : seat_after seats first count ≡ seat
  pub passed : new ≡ after_passes seats first old count

-- a seat is behind the lines of its first turn, and has done this in it
pub record IsBehindFirstTurn {TurnActions : Type 0} (rules : RoundRules TurnActions) (file : List ℕ) (round : Round)
    (seat : Seat) (old new : Game) (actions : TurnActions) : Type 0 where
  pub before : List Event
  pub passed : IsTheirTurn old.seats (priority_of old.seats old.events) seat
      (begun_for rules file round seat old.events) before
  pub seats : new.seats ≡ old.seats
  pub turn : in_turn new.events actions
      ≡ after_written_turn rules old.seats seat before (first_lines file round seat)
