-- A round of turns, from a list to a list. First comes the ROUND event, then the standing lines,
-- seat by seat. Then come turns to the left, the first by the holder of priority. In each a seat
-- takes up the next written turn of its sheet, and passes if it does not act in it. Then comes what
-- follows the turns, and what was left. The turns are over once all seats have passed in
-- succession, or something else ends them. Each kind of round has rules of its own for what a line
-- does, what acting is, what else ends the turns and what follows them.
use Rattle.std.specs.Prelude.{◌≡◌, ℕ, ◌*◌, ◌≤◌, Bool, List, [], ◌∷◌, ◌++◌}
use Rattle.std.specs.List.{range_with_len}
use Rattle.events.specs.declared.event.Event.{Event}
use Rattle.events.specs.declared.event.Event.TheVariants as event
use Rattle.totals.specs.LookBack.{Game, priority_of}
use Rattle.history.specs.Record.{with_left}
use Rattle.sheets.specs.Part.{Numbered}
pub use Rattle.sheets.specs.Taken.{written_turns_for, in_play}
use Rattle.sheets.specs.Taken.{after_all_before, after_each, said_of_left}
use Rattle.tables.specs.Turns.{InPlay, Play, Turned, TurnsEnd}
use Rattle.tables.specs.declared.round.Round.{Round}
use Rattle.tables.specs.declared.seat.Seat.{Seat}

-- in a turn: the list so far, and what the seat has done
pub record InTurn (TurnActions : Type 0) : Type 0 where
  pub events : List Event
  pub actions : TurnActions

-- in a turn with this list, in which the seat has done this
abbrev pub in_turn : {TurnActions : Type 0} → List Event → TurnActions → InTurn TurnActions
in_turn events actions = record { events = events; actions = actions }

-- The rules of a kind of round. They are:
--
-- - the list after a standing line of a seat;
-- - what a seat has done before the first line of its turn, and where a line of it leads at a table
--   of this many seats;
-- - whether a seat that has done this has acted;
-- - what ends the turns before all have passed;
-- - the list after what follows the turns.
pub record RoundRules (TurnActions : Type 0) : Type 0 where
  pub standing : Seat → List Event → Numbered → List Event
  pub nothing : TurnActions
  pub line : ℕ → Seat → InTurn TurnActions → Numbered → InTurn TurnActions
  pub has_acted : TurnActions → Bool
  pub over : List Event → Bool
  pub closed : ℕ → List Event → List Event

-- after the standing lines of seats, in order
abbrev pub after_standing : {TurnActions : Type 0} → RoundRules TurnActions → List ℕ → Round → List Event → List ℕ
    → List Event
after_standing rules file round events seats = after_all_before rules.standing file round events seats

-- after lines of a written turn, in order
abbrev pub after_lines : {TurnActions : Type 0} → RoundRules TurnActions → ℕ → Seat → InTurn TurnActions
    → List Numbered → InTurn TurnActions
after_lines rules seats seat turn lines = after_each (rules.line seats seat) turn lines

-- after a written turn, at the start of which a seat has done nothing
abbrev pub after_written_turn : {TurnActions : Type 0} → RoundRules TurnActions → ℕ → Seat → List Event → List Numbered
    → InTurn TurnActions
after_written_turn rules seats seat events lines = after_lines rules seats seat (in_turn events rules.nothing) lines

-- where a turn has led, and whether the seat acted in it
abbrev pub turned : {TurnActions : Type 0} → RoundRules TurnActions → InTurn TurnActions → Turned (List Event)
turned rules turn = record { state = turn.events; acted = rules.has_acted turn.actions }

-- the turns of a round at a table of this many seats
abbrev pub turns_of : {TurnActions : Type 0} → RoundRules TurnActions → ℕ → Play (List Event) Numbered
turns_of rules seats = record {
  seats = seats;
  turn = λ seat lines events. turned rules (after_written_turn rules seats seat events lines);
  pass = λ seat events. events ++ event.Passes seat ∷ [];
  over = rules.over;
}

-- the round before its first turn: that is of the holder of priority
abbrev pub opened : {TurnActions : Type 0} → RoundRules TurnActions → ℕ → List ℕ → Round → List Event
    → InPlay (List Event) Numbered
opened rules seats file round events = in_play
    (after_standing rules file round (events ++ event.Round round ∷ []) (range_with_len 0 seats))
    (priority_of seats events).0 0 (written_turns_for seats file round)

-- the lines that were not reached, seat by seat
abbrev pub left_from : ℕ → List (List (List Numbered)) → List Event
left_from seat written_turns = said_of_left with_left seat written_turns

-- the list at the end of the round
abbrev pub finished : {TurnActions : Type 0} → RoundRules TurnActions → ℕ → InPlay (List Event) Numbered → List Event
finished rules seats last = rules.closed seats last.now ++ left_from 0 last.written_turns

-- the turns lead from a round in play to these events and these written turns that are left
pub record TurnsLead {TurnActions : Type 0} (rules : RoundRules TurnActions) (seats : ℕ)
    (from : InPlay (List Event) Numbered) (events : List Event) (written_turns : List (List (List Numbered))) : Type 0 where
  pub last : InPlay (List Event) Numbered
  pub turns : TurnsEnd (turns_of rules seats) from last
  pub events_then : last.now ≡ events
  pub then_written_turns : last.written_turns ≡ written_turns

-- new is old after a round of turns with the sheets of the file
pub record IsRoundOfTurns {TurnActions : Type 0} (rules : RoundRules TurnActions) (file : List ℕ) (round : Round)
    (old new : Game) : Type 0 where
  pub last : InPlay (List Event) Numbered
  pub turns : TurnsEnd (turns_of rules old.seats) (opened rules old.seats file round old.events) last
  pub after : new ≡ record { seats = old.seats; events = finished rules old.seats last }

-- a round of turns with the sheets of the file has an outcome, after at most 513 turns for each
-- seat
pub record EndsSoon {TurnActions : Type 0} (rules : RoundRules TurnActions) (file : List ℕ) (round : Round)
    (old : Game) : Type 0 where
  pub new : Game
  pub played : IsRoundOfTurns rules file round old new
  pub few_turns : played.turns.steps ≤ 513 * old.seats
