-- Play comes to a seat's first turn through the turns of seats that have no lines.
use Rattle.std.proofs.Common.{◌≡◌, ℕ, zero, suc, ◌+◌, ◌-◌, ◌<◌, ◌≤◌, Bool, false, nat_lt, if◌then◌else◌, List}
use Rattle.std.proofs.Common.{[], ◌∷◌, ◌++◌, drop, set, refl, sym, ap, ◌∙◌, zero-add, inl, inr, is_some, is_none, arith}
use Rattle.std.proofs.lemmas.Bool.{cases_eq}
use Rattle.std.proofs.lemmas.Bool.Decides.{nat_tests}
use Rattle.std.proofs.lemmas.List.{set-get_or}
use Rattle.std.proofs.lemmas.List.FromFn.{get_or-map-range_with_len}
use Rattle.std.proofs.lemmas.Option.{unwrap_or-slice_get}
use Rattle.std.specs.List.{range_with_len}
use Rattle.events.specs.Event.{ownership_of}
use Rattle.events.specs.declared.event.Event.{Event}
use Rattle.events.specs.declared.event.Event.TheVariants as event
use Rattle.foresight.specs.FirstTurn.{after_passes, begun_for, seat_after}
use Rattle.foresight.specs.Reached.{FirstTurnsAreReached, HeadsAreReached, IsAlone}
use Rattle.privates.specs.Turn.{opening_rules}
use Rattle.sheets.specs.Part.{Numbered, SheetParts, parts_for, written_turns_of}
use Rattle.sheets.specs.Taken.{after_all_before, after_each, after_lines_before, in_play, written_turns_for}
use Rattle.tables.specs.Roster.{privates}
use Rattle.tables.specs.Seat.{left_of, seat_at}
use Rattle.tables.specs.Steps.{iterate}
use Rattle.tables.specs.Turns.{InPlay, Play, after_turn, next_written_turn, turn_over, turns_over, written_turns_at}
use Rattle.tables.specs.declared.roster.Private.{Private}
use Rattle.tables.specs.declared.round.Round.{Round}
use Rattle.tables.specs.declared.seat.Seat.{Seat}
use Rattle.totals.proofs.EventAtEnd.{last_said_before}
use Rattle.totals.specs.LookBack.{first_unsold, is_sold, owner_said, priority_of}
use Rattle.turns.proofs.Turns.{priority_within, going_on}
use Rattle.turns.specs.RoundOfTurns.{RoundRules, opened, turns_of}

-- a seat without standing lines changes nothing before the turns
no_standing : {State : Type 0} (step : Seat → State → Numbered → State) (file : List ℕ) (round : Round) (state : State)
    (seat : ℕ) → (parts_for file round seat).before ≡ [] → after_lines_before step file round state seat ≡ state
no_standing step file round state seat none = ap (after_each (step (seat_at seat)) state) none

-- nor do such seats one after another
pub none_standing : {State : Type 0} (step : Seat → State → Numbered → State) (file : List ℕ) (round : Round) (state : State)
    (a n : ℕ) → ((k : ℕ) → a ≤ k → k < a + n → (parts_for file round k).before ≡ [])
    → after_all_before step file round state (range_with_len a n) ≡ state
none_standing step file round state a zero none = refl
none_standing {State} step file round state a (suc n) none =
    ap (λ (state : State). after_all_before step file round state (range_with_len (a + 1) n))
    (no_standing step file round state a (none a (omega arith) (omega arith)))
    ∙ none_standing step file round state (a + 1) n (λ k from within. none k (omega (arith, from)) (omega (arith, within)))

-- of these seats one alone has standing lines
pub one_standing : {State : Type 0} (step : Seat → State → Numbered → State) (file : List ℕ) (round : Round) (state : State)
    (seat a n : ℕ) → a ≤ seat → seat < a + n
    → ((k : ℕ) → (k ≡ seat → ⊥) → k < a + n → (parts_for file round k).before ≡ [])
    → after_all_before step file round state (range_with_len a n) ≡ after_lines_before step file round state seat
one_standing step file round state seat a zero from within none = absurd (omega (arith, from, within))
one_standing {State} step file round state seat a (suc n) from within none =
    elim (cases_eq a seat) [
      | inl same ↦
          none_standing step file round (after_lines_before step file round state a) (a + 1) n
          (λ k after below. none k (λ is. omega (arith, same, is, after)) (omega (arith, below)))
          ∙ ap (after_lines_before step file round state) same
      | inr apart ↦
          ap (λ (state : State). after_all_before step file round state (range_with_len (a + 1) n))
          (no_standing step file round state a (none a apart (omega arith)))
          ∙ one_standing step file round state seat (a + 1) n (omega (arith, from, apart)) (omega (arith, within))
          (λ k other below. none k other (omega (arith, below)))
    ]

-- the number of a seat so many to the left
abbrev number_after : ℕ → ℕ → ℕ → ℕ
number_after seats first count = if nat_lt (first + count) seats then first + count else first + count - seats

-- is that of the seat whose turn it is
numbered_so : (seats : ℕ) (first : Seat) (count : ℕ) → seats ≤ 6 → first.0 < seats → count < seats
    → (seat_after seats first count).0 ≡ number_after seats first.0 count
numbered_so seats first zero few at_table within = grind (arith, nat_tests)
numbered_so seats first (suc count) few at_table within =
    grind (arith, nat_tests, numbered_so seats first count few at_table (omega (arith, within)))

-- a seat is at the table
number_within : (seats first count : ℕ) → first < seats → count < seats → number_after seats first count < seats
number_within seats first count at_table within = grind (arith, nat_tests)

-- two such seats are not the same
numbers_apart : (seats first earlier count : ℕ) → first < seats → count < seats → earlier < count
    → number_after seats first earlier ≡ number_after seats first count → ⊥
numbers_apart seats first earlier count at_table within before same = grind (arith, nat_tests, same)

-- a seat without written turns that does not act passes, and nothing else changes
idle_turn : {State Line : Type 0} (play : Play State Line) (at : InPlay State Line)
    → written_turns_at at.written_turns at.seat ≡ []
    → play.turn (seat_at at.seat) [] at.now ≡ record { state = at.now; acted = false }
    → after_turn play at ≡ record {
      now = play.pass (seat_at at.seat) at.now;
      seat = (left_of play.seats (seat_at at.seat)).0;
      passes = at.passes + 1;
      written_turns = at.written_turns;
    }
idle_turn {State} {Line} play at none turn =
    let none_there = sym (unwrap_or-slice_get at.written_turns at.seat []) ∙ none in
    let left : set at.written_turns at.seat (drop 1 (written_turns_at at.written_turns at.seat)) ≡ at.written_turns =
    ap (λ (its : List (List Line)). set at.written_turns at.seat (drop 1 its)) none
    ∙ ap (set at.written_turns at.seat) (sym none_there) ∙ set-get_or at.written_turns at.seat []
    in
    ap (turn_over play at)
    (ap (λ (its : List (List Line)). play.turn (seat_at at.seat) (next_written_turn its) at.now) none ∙ turn)
    ∙ ap (λ (written_turns : List (List (List Line))). record {
      now = play.pass (seat_at at.seat) at.now;
      seat = (left_of play.seats (seat_at at.seat)).0;
      passes = at.passes + 1;
      written_turns = written_turns;
    }) left

-- one more
one_more : (count : ℕ) → count + 1 ≡ suc count
one_more count = omega arith

module _ {TurnActions : Type 0} (rules : RoundRules TurnActions) (idle : rules.has_acted rules.nothing ≡ false)
    (file : List ℕ) (round : Round) (seats : ℕ) (first seat : Seat) (few : seats ≤ 6) (at_table : first.0 < seats)
    (alone : IsAlone file round seat) (events : List Event) where
  -- where play stands once this many seats have passed
  abbrev standing : ℕ → InPlay (List Event) Numbered
  standing count =
      in_play (after_passes seats first events count) (seat_after seats first count).0 count
      (written_turns_for seats file round)

  -- another seat has no written turns
  none_written : (other : ℕ) → other < seats → (other ≡ seat.0 → ⊥)
      → written_turns_at (written_turns_for seats file round) other ≡ []
  none_written other within apart =
      unwrap_or-slice_get (written_turns_for seats file round) other []
      ∙ get_or-map-range_with_len (λ seat. written_turns_of (parts_for file round seat)) 0 seats other other [] within
      (zero-add other)
      ∙ ap written_turns_of (alone other apart)

  -- so it passes
  passes_on : (count : ℕ) → count < seats → ((seat_after seats first count).0 ≡ seat.0 → ⊥)
      → after_turn (turns_of rules seats) (standing count) ≡ standing (suc count)
  passes_on count within apart =
      let there : (seat_after seats first count).0 < seats =
      rw (numbered_so seats first count few at_table within) (number_within seats first.0 count at_table within)
      in
      idle_turn (turns_of rules seats) (standing count)
      (none_written (seat_after seats first count).0 there apart)
      (ap (λ (acted : Bool). record { state = after_passes seats first events count; acted = acted }) idle)
      ∙ ap (λ (passes : ℕ). in_play (after_passes seats first events (suc count))
      (seat_after seats first (suc count)).0 passes (written_turns_for seats file round)) (one_more count)

  -- until the seat has its turn
  reached : (count : ℕ) → count < seats → seat_after seats first count ≡ seat → (k : ℕ) → k ≤ count
      → iterate (after_turn (turns_of rules seats)) k (standing 0) ≡ standing k
  reached count within its zero before = refl
  reached count within its (suc k) before =
      let apart : (seat_after seats first k).0 ≡ seat.0 → ⊥ =
      λ same. numbers_apart seats first.0 k count at_table within (omega (arith, before))
      (sym (numbered_so seats first k few at_table (omega (arith, before, within)))
      ∙ same ∙ ap (λ (seat : Seat). seat.0) (sym its) ∙ numbered_so seats first count few at_table within)
      in
      ap (after_turn (turns_of rules seats)) (reached count within its k (omega (arith, before)))
      ∙ passes_on k (omega (arith, before, within)) apart

-- a pass does not end the turns
abbrev PassesEndNothing : {TurnActions : Type 0} → RoundRules TurnActions → Type 0
PassesEndNothing rules = (events : List Event) (seat : Seat) → rules.over (events ++ event.Passes seat ∷ []) ≡ rules.over events

-- nor do many
still_on : {TurnActions : Type 0} (rules : RoundRules TurnActions) → PassesEndNothing rules → (seats : ℕ) (first : Seat)
    (events : List Event) (count : ℕ) → rules.over (after_passes seats first events count) ≡ rules.over events
still_on rules ends seats first events zero = refl
still_on rules ends seats first events (suc count) =
    ends (after_passes seats first events count) (seat_after seats first count)
    ∙ still_on rules ends seats first events count

-- play comes to the first turn of a seat that alone has lines
pub first_turns_reached : {TurnActions : Type 0} (rules : RoundRules TurnActions) → rules.has_acted rules.nothing ≡ false
    → PassesEndNothing rules → FirstTurnsAreReached rules
first_turns_reached rules idle ends file round seat old before few its_at alone on their =
    let seats = old.seats in
    let first = priority_of seats old.events in
    let begun = begun_for rules file round seat old.events in
    let at_table : first.0 < seats = priority_within seats old.events (omega (arith, its_at)) in
    let opens : opened rules seats file round old.events ≡ in_play begun first.0 0 (written_turns_for seats file round) =
    ap (λ (events : List Event). in_play events first.0 0 (written_turns_for seats file round))
    (one_standing rules.standing file round (old.events ++ event.Round round ∷ []) seat.0 0 seats (omega arith)
    (omega (arith, its_at)) (λ k other within. ap (λ (parts : SheetParts). parts.before) (alone k other)))
    in
    let stands = standing rules idle file round seats first seat few at_table alone begun in
    let goes : (k : ℕ) → k ≤ their.count
    → iterate (after_turn (turns_of rules seats)) k (opened rules seats file round old.events) ≡ stands k =
    λ k within. ap (iterate (after_turn (turns_of rules seats)) k) opens
    ∙ reached rules idle file round seats first seat few at_table alone begun their.count their.few their.its k within
    in
    record {
      steps = their.count;
      reached =
          goes their.count (omega arith)
          ∙ ap (λ (events : List Event). in_play events (seat_after seats first their.count).0 their.count
          (written_turns_for seats file round)) (sym their.passed)
          ∙ ap (λ (seat : Seat). in_play before seat.0 their.count (written_turns_for seats file round)) their.its;
      not_before =
          λ k less. ap (turns_over (turns_of rules seats)) (goes k (omega (arith, less)))
          ∙ going_on (rules.over (after_passes seats first begun k)) seats k
          (still_on rules ends seats first begun k ∙ on) (omega (arith, less, their.few));
    }

-- play comes to the head of a turn
pub heads_reached : {TurnActions : Type 0} (rules : RoundRules TurnActions) → rules.has_acted rules.nothing ≡ false
    → PassesEndNothing rules → HeadsAreReached rules
heads_reached rules idle ends file round seat old before few its_at alone no_lines on their =
    let first = priority_of old.seats old.events in
    let begun : old.events ++ event.Round round ∷ [] ≡ begun_for rules file round seat old.events =
    sym (no_standing rules.standing file round (old.events ++ event.Round round ∷ []) seat.0 no_lines)
    in
    first_turns_reached rules idle ends file round seat old before few its_at alone on (record {
      count = their.count;
      few = their.few;
      its = their.its;
      passed = their.passed ∙ ap (λ (events : List Event). after_passes old.seats first events their.count) begun;
    })

-- what is sold is sold after a pass, and nothing else
same_unsold : (before after : Private → Bool) → ((private : Private) → after private ≡ before private)
    → (them : List Private) → first_unsold after them ≡ first_unsold before them
same_unsold before after same [] = refl
same_unsold before after same (private ∷ others) = grind (arith, same private, same_unsold before after same others)

-- a pass does not end an opening round
pub opening_goes_on : PassesEndNothing opening_rules
opening_goes_on events seat =
    let behind : List Event = events ++ event.Passes seat ∷ [] in
    ap is_none (same_unsold (is_sold events) (is_sold behind)
    (λ private. ap is_some (last_said_before (λ event. owner_said private (ownership_of event)) behind events
    (event.Passes seat) refl refl)) privates)
