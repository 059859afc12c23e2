-- Each round that comes is within its set.
use Rattle.std.proofs.Common.{◌≡◌, ℕ, ◌+◌, ◌<◌, ◌≤◌, Bool, true, false, List, [], length, sym, ap}
use Rattle.std.proofs.Common.{subst, ◌∙◌, arith}
use Rattle.std.proofs.lemmas.Bool.{ltb-true}
use Rattle.events.specs.declared.event.Event.{Event}
use Rattle.totals.specs.LookBack.{Game, broken_in}
use Rattle.totals.specs.Trains.{phase_of}
use Rattle.privates.specs.Turn.{all_sold}
use Rattle.rounds.proofs.Coming.{OfNext, after_operating, comes_once, follows, in_set_then}
use Rattle.rounds.proofs.Coming.{of_coming, through}
use Rattle.rounds.specs.Play.{AreRounds, Between, IsRound, before_play, in_set_before, rounds_of_new_set}
use Rattle.rounds.specs.Sequence.{following, turn_in_set}
use Rattle.rounds.specs.declared.following.Next.TheVariants as next
use Rattle.sheets.specs.File.{players_of}
use Rattle.tables.specs.Round.{operating_most}
use Rattle.tables.specs.Train.{rounds_in_set_of}
use Rattle.tables.specs.declared.rolling_stock.Kind.{Kind}
use Rattle.tables.specs.declared.round.Round.{Round}
use Rattle.tables.specs.declared.round.Round.TheVariants.{Opening, Stock, Operating}

-- the set has one to three operating rounds, and if the round is one of them it is not past the
-- last
pub record IsInSet (round : Round) (in_set : ℕ) : Type 0 where
  pub some : 1 ≤ in_set
  pub few : in_set ≤ operating_most
  pub within : turn_in_set round ≤ in_set

-- a round is within its set, and so within the most that a set has
pub in_any_set : (round : Round) (in_set : ℕ) → IsInSet round in_set → turn_in_set round ≤ operating_most
in_any_set round in_set within_set = omega arith

-- the first round does
first_in_set : (file : List ℕ) → IsInSet (Opening 1) (before_play file).in_set
first_in_set file = record { some = omega arith; few = omega arith; within = omega arith }

-- a set that begins has one to three
new_set_few : (phase : Kind) → (1 ≤ rounds_in_set_of phase) × (rounds_in_set_of phase ≤ operating_most)
new_set_few phase = grind arith

-- its stock round is within it
new_set : (set : ℕ) (events : List Event) → IsInSet (Stock set) (rounds_of_new_set events)
new_set set events =
    let few = new_set_few (phase_of events) in record { some = few.0; few = few.1; within = omega arith }

-- so does what follows each round
next_in_set : (round : Round) (in_set : ℕ) (all_sold broken : Bool) (events : List Event) →
    IsInSet round in_set →
    OfNext (λ later. IsInSet later (in_set_before (next.Round later) events in_set))
    (following round in_set all_sold broken)
next_in_set (Opening number) in_set true broken events within_set = new_set 1 events
next_in_set (Opening number) in_set false broken events within_set =
    record { some = within_set.some; few = within_set.few; within = within_set.within }
next_in_set (Stock set) in_set all_sold broken events within_set =
    let some = within_set.some in record { some = within_set.some; few = within_set.few; within = omega (arith, some) }
next_in_set (Operating set number) in_set all_sold broken events within_set =
    after_operating (λ (later : Round). IsInSet later (in_set_before (next.Round later) events in_set)) set number
    in_set all_sold broken
    (λ less. let before : number < in_set = ltb-true number in_set less in record
    { some = within_set.some; few = within_set.few; within = omega (arith, before) })
    (λ past. new_set (set + 1) events)

-- so does a round that comes
pub coming_in_set : (round later : Round) (in_set : ℕ) (all_sold broken : Bool) (events : List Event) →
    IsInSet round in_set → following round in_set all_sold broken ≡ next.Round later →
    IsInSet later (in_set_before (next.Round later) events in_set)
coming_in_set round later in_set all_sold broken events within_set comes =
    of_coming (λ (later : Round). IsInSet later (in_set_before (next.Round later) events in_set))
    (following round in_set all_sold broken) later comes
    (next_in_set round in_set all_sold broken events within_set)

-- the round that comes next, if one does, is within its set
abbrev pub IsNextInSet : Between → Type 0
IsNextInSet there = (round : Round) → there.next ≡ next.Round round → IsInSet round there.in_set

-- so it is after a round that was played
pub round_in_set : (file : List ℕ) (old new : Between) → IsNextInSet old → IsRound file old new → IsNextInSet new
round_in_set file old new within_set round later comes =
    subst (λ (count : ℕ). IsInSet later count) (sym (in_set_then file old new later round comes))
    (coming_in_set round.round later old.in_set (all_sold new.game.events) (broken_in new.game.events) new.game.events
    (within_set round.round round.comes) (follows file old new later round comes))

-- before the first
pub first_is_in_set : (file : List ℕ) → IsNextInSet (before_play file)
first_is_in_set file round comes =
    subst (λ (at : Round). IsInSet at (before_play file).in_set) (comes_once (Opening 1) round comes)
    (first_in_set file)

-- and wherever a game comes
pub comes_in_set : (file : List ℕ) (rounds : ℕ) (there : Between) → AreRounds file rounds (before_play file) there
    → IsNextInSet there
comes_in_set file rounds there played =
    through file IsNextInSet (round_in_set file) rounds (before_play file) there played
    (first_is_in_set file)

-- before the first round
pub begins_so : (file : List ℕ) (history : Game) (seats in_set : ℕ) →
    history ≡ record { seats = seats; events = [] } → seats ≡ length (players_of file) →
    in_set ≡ rounds_of_new_set history.events →
    before_play file ≡ record { game = history; in_set = in_set; next = next.Round (Opening 1) }
begins_so file history seats in_set is_new players counted =
    let game : history ≡ record { seats = length (players_of file); events = [] } =
    is_new ∙ ap (λ (n : ℕ). record { seats = n; events = [] }) players in
    let count : in_set ≡ rounds_of_new_set [] = counted ∙ ap (λ (g : Game). rounds_of_new_set g.events) game in
    λ i. record { game = sym game i; in_set = sym count i; next = next.Round (Opening 1) }
