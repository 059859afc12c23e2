-- Turns to the left until all pass. In a turn a seat takes the next written turn of its sheet, or
-- none if no written turn is left. The lines are ruled, and the seat passes if it does not act in
-- them. The turns are over once all seats have passed in succession, or something else ends them.
use Rattle.std.specs.Prelude.{◌≡◌, ℕ, ◌+◌, ◌-◌, ◌*◌, ◌≤◌, ◌<◌, Bool, false, ◌||◌, nat_le, min, if◌then◌else◌, List, []}
use Rattle.std.specs.Prelude.{◌∷◌, length, sum_by, drop, slice_get, slice_set, unwrap_or}
use Rattle.tables.specs.Seat.{left_of, seat_at}
use Rattle.tables.specs.Steps.{Ends}
use Rattle.tables.specs.declared.seat.Seat.{Seat}

-- where a turn's lines led, and whether the seat acted in them
pub record Turned (State : Type 0) : Type 0 where
  pub state : State
  pub acted : Bool

-- what turns do: the number of seats, what a seat's written turn does, what a pass does, and what
-- ends the turns before all have passed
pub record Play (State Line : Type 0) : Type 0 where
  pub seats : ℕ
  pub turn : Seat → List Line → State → Turned State
  pub pass : Seat → State → State
  pub over : State → Bool

-- turns in play: the state so far, whose turn it is, how many have passed in succession, and each
-- seat's written turns that are still to come
pub record InPlay (State Line : Type 0) : Type 0 where
  pub now : State
  pub seat : ℕ
  pub passes : ℕ
  pub written_turns : List (List (List Line))

-- the next of some written turns; without one there are no lines
abbrev pub next_written_turn : {Line : Type 0} → List (List Line) → List Line
next_written_turn [] = []
next_written_turn (written ∷ written_turns) = written

-- a seat's written turns
abbrev pub written_turns_at : {Line : Type 0} → List (List (List Line)) → ℕ → List (List Line)
written_turns_at written_turns seat = unwrap_or (slice_get written_turns seat) []

-- where the play is after a turn that has led to this
abbrev pub turn_over : {State Line : Type 0} → Play State Line → InPlay State Line → Turned State → InPlay State Line
turn_over play at turned =
    record {
      now = if turned.acted then turned.state else play.pass (seat_at at.seat) turned.state;
      seat = (left_of play.seats (seat_at at.seat)).0;
      passes = if turned.acted then 0 else at.passes + 1;
      written_turns = slice_set at.written_turns at.seat (drop 1 (written_turns_at at.written_turns at.seat));
    }

-- where it is after one more turn
abbrev pub after_turn : {State Line : Type 0} → Play State Line → InPlay State Line → InPlay State Line
after_turn play at =
    turn_over play at (play.turn (seat_at at.seat) (next_written_turn (written_turns_at at.written_turns at.seat)) at.now)

-- the turns are over: something else ends them, or all seats have passed in succession
abbrev pub turns_over : {State Line : Type 0} → Play State Line → InPlay State Line → Bool
turns_over play at = play.over at.now || nat_le play.seats at.passes

-- the turns lead from start to last: the middle of a round
abbrev pub TurnsEnd : {State Line : Type 0} → Play State Line → InPlay State Line → InPlay State Line → Type 0
TurnsEnd play start last = Ends (after_turn play) (turns_over play) start last

-- without lines no seat acts
abbrev pub IsIdleWithoutLines : {State Line : Type 0} → Play State Line → Type 0
IsIdleWithoutLines {State} play = (seat : Seat) (state : State) → (play.turn seat [] state).acted ≡ false

-- the most written turns of a seat, each of which begins with a line of its sheet
abbrev pub written_turns_most : ℕ
written_turns_most = 512

-- turns can begin here: the seat is at the table, if there is one, and no seat has more written
-- turns than there can be
pub record CanBegin {State Line : Type 0} (play : Play State Line) (start : InPlay State Line) : Type 0 where
  pub at_table : 0 < play.seats → start.seat < min play.seats 256
  pub few_written_turns : (seat : ℕ) → length (written_turns_at start.written_turns seat) ≤ written_turns_most

-- the turns end, after at most one for each written turn and a pass for each seat, which is 513 a
-- seat
pub record EndSoon {State Line : Type 0} (play : Play State Line) (start : InPlay State Line) : Type 0 where
  pub last : InPlay State Line
  pub ends : TurnsEnd play start last
  pub few_turns : ends.steps ≤ (written_turns_most + 1) * play.seats

-- how many written turns are still to come
abbrev pub written_turns_left : {State Line : Type 0} → InPlay State Line → ℕ
written_turns_left at = sum_by (λ written_turns. length written_turns) at.written_turns

-- a bound on the turns that are still to come: it is no rule of the game, but the measure that
-- shows that they end
abbrev pub turns_most : {State Line : Type 0} → Play State Line → InPlay State Line → ℕ
turns_most play at = written_turns_left at * play.seats + (play.seats - at.passes)

-- turns have at most one outcome, whatever a turn does
abbrev pub TurnsEndOnce : Type 0 → Type 0 → Type 0
TurnsEndOnce State Line =
    (play : Play State Line) (start a b : InPlay State Line) → TurnsEnd play start a → TurnsEnd play start b → a ≡ b

-- turns have an outcome soon, if no seat acts without lines and none has more than 512 written turns
abbrev pub TurnsEndSoon : Type 0 → Type 0 → Type 0
TurnsEndSoon State Line =
    (play : Play State Line) (start : InPlay State Line) → IsIdleWithoutLines play → CanBegin play start
    → EndSoon play start

-- each turn brings the end nearer, if no seat acts without lines
abbrev pub TurnsComeNearer : Type 0 → Type 0 → Type 0
TurnsComeNearer State Line =
    (play : Play State Line) (at : InPlay State Line) → IsIdleWithoutLines play → turns_over play at ≡ false
    → turns_most play (after_turn play at) < turns_most play at
