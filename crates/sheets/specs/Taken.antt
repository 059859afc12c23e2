-- What every round takes up of its sheets, whatever becomes of a line. First come the lines that
-- are before the first head of each sheet, seat by seat, then the written turns, turn by turn. At
-- the end it says how many lines were not reached.
use Rattle.std.specs.Prelude.{ℕ, ◌+◌, List, [], ◌∷◌, map}
use Rattle.std.specs.List.{range_with_len}
use Rattle.sheets.specs.Part.{Numbered, written_turns_of, lines_in_written_turns, parts_for}
use Rattle.tables.specs.Seat.{seat_at}
use Rattle.tables.specs.Turns.{InPlay}
use Rattle.tables.specs.declared.round.Round.{Round}
use Rattle.tables.specs.declared.seat.Seat.{Seat}

-- after some things in order, if each of them does this
abbrev pub after_each : {State Item : Type 0} → (State → Item → State) → State → List Item → State
after_each step state [] = state
after_each step state (item ∷ items) = after_each step (step state item) items

-- after the standing lines of a seat's sheet for a round, if a line of a seat does this
abbrev pub after_lines_before : {State : Type 0} → (Seat → State → Numbered → State) → List ℕ → Round → State → ℕ
    → State
after_lines_before step file round state seat =
    after_each (step (seat_at seat)) state (parts_for file round seat).before

-- after the standing lines of these seats, in order
abbrev pub after_all_before : {State : Type 0} → (Seat → State → Numbered → State) → List ℕ → Round → State → List ℕ
    → State
after_all_before step file round state seats = after_each (after_lines_before step file round) state seats

-- the written turns of each seat's sheet for a round
abbrev pub written_turns_for : ℕ → List ℕ → Round → List (List (List Numbered))
written_turns_for seats file round = map (λ seat. written_turns_of (parts_for file round seat)) (range_with_len 0 seats)

-- turns in play: the state so far, whose turn it is, how many have passed, and what is left of the
-- written turns
abbrev pub in_play : {State : Type 0} → State → ℕ → ℕ → List (List (List Numbered)) → InPlay State Numbered
in_play state seat passes written_turns = record { now = state; seat = seat; passes = passes; written_turns = written_turns }

-- what is said of the lines that were not reached, seat by seat, with this said before the rest
abbrev pub said_of_left : {Said : Type 0} → (Seat → ℕ → List Said → List Said) → ℕ → List (List (List Numbered))
    → List Said
said_of_left say seat [] = []
said_of_left say seat (written_turns ∷ others) = say (seat_at seat) (lines_in_written_turns written_turns)
    (said_of_left say (seat + 1) others)
