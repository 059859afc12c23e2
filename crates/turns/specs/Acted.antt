-- Whether a seat acted is said twice. Its turn says so: a seat that did not act passes. The list of
-- events says so: the holder of priority sits at the left of the seat that acted last. Both say the
-- same of a turn if its new events name its seat, and no other, as one that acted where it acted,
-- and otherwise nobody.
use Rattle.std.specs.Prelude.{◌≡◌, ℕ, Bool, if◌then◌else◌, List, ◌++◌, Some, None}
use Rattle.events.specs.Event.{actor_of}
use Rattle.events.specs.declared.event.Event.{Event}
use Rattle.totals.specs.LookBack.{last_said}
use Rattle.sheets.specs.Part.{Numbered}
use Rattle.tables.specs.Turns.{Turned}
use Rattle.tables.specs.declared.seat.Seat.{Seat}
use Rattle.turns.specs.RoundOfTurns.{RoundRules, turns_of}

-- the list goes on, and by what is new the seat acted last, or nobody acted
pub record SaysWhoActed (seat : Seat) (acted : Bool) (old new : List Event) : Type 0 where
  pub more : List Event
  pub longer : new ≡ old ++ more
  pub last : last_said actor_of more ≡ (if acted then Some seat else None)

-- a turn that has led from a list to this says who acted in it
abbrev pub TurnSaysWhoActed : Seat → List Event → Turned (List Event) → Type 0
TurnSaysWhoActed seat old turn = SaysWhoActed seat turn.acted old turn.state

-- each turn of a round does, whatever its lines are
abbrev pub TurnsSayWhoActed : {TurnActions : Type 0} → RoundRules TurnActions → Type 0
TurnsSayWhoActed rules =
    (seats : ℕ) (seat : Seat) (events : List Event) (lines : List Numbered)
    → TurnSaysWhoActed seat events ((turns_of rules seats).turn seat lines events)
