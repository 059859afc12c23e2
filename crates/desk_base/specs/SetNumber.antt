-- How many operating rounds the set has: as many as the phase gave it as its stock round began.
-- Where a stock round is awaited, it is the set that begins with that round.
use Rattle.std.specs.Prelude.{◌≡◌, ℕ, List, Option, Some, None}
use Rattle.std.specs.List.{fold}
use Rattle.desk_base.specs.declared.set_number.SetSoFar.{SetSoFar}
use Rattle.events.specs.Event.{phase_set, round_begun_by}
use Rattle.events.specs.declared.event.Event.{Event}
use Rattle.desk_base.specs.Stopped.{StoppedAt}
use Rattle.rounds.specs.Play.{Between, Played, coming, end_of, in_set_before}
use Rattle.rounds.specs.declared.following.Next.TheVariants as next
use Rattle.rounds.specs.declared.game.End.{End}
use Rattle.rounds.specs.declared.game.End.TheVariants.{Awaiting, Bank, Bankrupt}
use Rattle.tables.specs.Train.{rounds_in_set_of}
use Rattle.tables.specs.declared.rolling_stock.Kind.{Kind}
use Rattle.tables.specs.declared.rolling_stock.Kind.TheVariants.{Two}
use Rattle.tables.specs.declared.round.Round.{Round}
use Rattle.tables.specs.declared.round.Round.TheVariants.{Opening, Stock, Operating}

-- where a phase begins, if one does
abbrev pub in_phase : SetSoFar → Option Kind → SetSoFar
in_phase set None = set
in_phase set (Some phase) = record set { phase = phase }

-- where a round begins, if one does: a stock round begins a set
abbrev pub at_round : SetSoFar → Option Round → SetSoFar
at_round set None = set
at_round set (Some (Opening number)) = set
at_round set (Some (Stock number)) = record set { rounds = rounds_in_set_of set.phase }
at_round set (Some (Operating number its)) = set

-- after one more event
abbrev pub set_then : SetSoFar → Event → SetSoFar
set_then set event = at_round (in_phase set (phase_set event)) (round_begun_by event)

-- after these events
abbrev pub set_of : List Event → SetSoFar
set_of events = fold set_then (record { phase = Two; rounds = rounds_in_set_of Two }) events

-- how many the set has where this comes next
abbrev pub number_in_set : End → List Event → ℕ
number_in_set (Awaiting round) events = in_set_before (next.Round round) events (set_of events).rounds
number_in_set Bank events = (set_of events).rounds
number_in_set Bankrupt events = (set_of events).rounds

-- what comes after a round that has led to these events, or how the game ended
abbrev pub end_after : Round → List Event → End
end_after round events = end_of (coming round (set_of events).rounds events) events

-- the number is that by which the game was played as far as it came, and by which it goes on
pub record IsNumberPlayed (played : Played) (count : ℕ) : Type 0 where
  pub last : Between
  pub stopped : StoppedAt played last
  pub number : count ≡ last.in_set
