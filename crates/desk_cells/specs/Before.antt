-- The game before the round that began last.
use Rattle.std.specs.Prelude.{ℕ, ◌+◌, if◌then◌else◌, List, is_some, take}
use Rattle.std.specs.List.{fold}
use Rattle.events.specs.Event.{round_begun_by}
use Rattle.events.specs.declared.event.Event.{Event}
use Rattle.totals.specs.LookBack.{Game}

-- how many events there are, and how many were before the round that began last
pub record Passed : Type 0 where
  pub passed : ℕ
  pub before : ℕ

-- after one more event
abbrev pub passed_then : Passed → Event → Passed
passed_then so_far event =
    record {
      passed = so_far.passed + 1;
      before = if is_some (round_begun_by event) then so_far.passed else so_far.before;
    }

-- how many events were before the round that began last; 0 if none began
abbrev pub before_round : List Event → ℕ
before_round events = (fold passed_then (record { passed = 0; before = 0 }) events).before

-- the game before the round that began last
abbrev pub game_before : Game → Game
game_before game = record { seats = game.seats; events = take (before_round game.events) game.events }
