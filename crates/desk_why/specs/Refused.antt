-- Which lines of a round were refused, by the places of their rulings in the list of events.
use Rattle.std.specs.Prelude.{ℕ, ◌+◌, Bool, true, false, ◌&&◌, if◌then◌else◌, List, [], ◌∷◌, ◌++◌, Option, Some, None}
use Rattle.std.specs.List.{fold}
use Rattle.events.specs.Event.{round_begun_by}
use Rattle.events.specs.declared.event.Event.{Event}
use Rattle.events.specs.declared.event.Event.TheVariants.{Ruled}
use Rattle.events.specs.declared.ruling.Ruling.{Ruling}
use Rattle.events.specs.declared.ruling.Ruling.TheVariants.{Obeyed}
use Rattle.tables.specs.Round.{same_round}
use Rattle.tables.specs.declared.round.Round.{Round}

-- a line was refused, or has a fault
abbrev pub is_not_obeyed : Ruling → Bool
is_not_obeyed (Obeyed condition order) = false
is_not_obeyed other = true

-- by an event
abbrev pub is_refused : Event → Bool
is_refused (Ruled seat line ruling) = is_not_obeyed ruling
is_refused other = false

-- the round is in hand, where this round has begun, if one has
abbrev pub within_if : Round → Bool → Option Round → Bool
within_if round within None = within
within_if round within (Some begun) = same_round begun round

-- after one more event
abbrev pub within_then : Round → Bool → Event → Bool
within_then round within event = within_if round within (round_begun_by event)

-- whether the round is in hand after some events, how many there are, and the places of rulings of
-- the round that refuse a line
pub record RefusedSoFar : Type 0 where
  pub within : Bool
  pub passed : ℕ
  pub places : List ℕ

-- with a place at the end, if this holds
abbrev pub with_place : List ℕ → ℕ → Bool → List ℕ
with_place places place holds = if holds then places ++ place ∷ [] else places

-- after one more event
abbrev pub refused_then : Round → RefusedSoFar → Event → RefusedSoFar
refused_then round so_far event =
    record {
      within = within_then round so_far.within event;
      passed = so_far.passed + 1;
      places =
          with_place so_far.places so_far.passed (within_then round so_far.within event && is_refused event);
    }

-- the places of all rulings of the round that refuse a line
abbrev pub refused_in : Round → List Event → List ℕ
refused_in round events =
    (fold (refused_then round) (record { within = false; passed = 0; places = [] }) events).places
