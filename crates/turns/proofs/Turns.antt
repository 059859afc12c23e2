-- The turns of a round, one after another, until they are over.
use Rattle.std.proofs.Common.{◌≡◌, ℕ, ◌+◌, ◌<◌, ◌≤◌, min, Bool, true, false, ◌||◌, nat_le, if◌then◌else◌, List, [], ◌∷◌}
use Rattle.std.proofs.Common.{◌++◌, length, map, drop, get_or, set, Option, Some, None, unwrap_or, option_map, sym, ap}
use Rattle.std.proofs.Common.{◌∙◌, arith}
use Rattle.std.proofs.lemmas.Bool.Decides.{nat_tests}
use Rattle.std.proofs.lemmas.List.{map-set}
use Rattle.std.proofs.lemmas.Option.{slice_get-get_or, slice_get-map}
use Rattle.events.specs.Event.{actor_of}
use Rattle.events.specs.declared.event.Event.{Event}
use Rattle.events.specs.declared.event.Event.TheVariants.{Passes}
use Rattle.totals.specs.LookBack.{last_said, left_of_actor, priority_of}
use Rattle.sheets.specs.Part.{Numbered, SheetParts, written_turns_of}
use Rattle.tables.specs.Seat.{left_of, seat_at}
use Rattle.tables.specs.Turns.{InPlay, IsIdleWithoutLines, Turned, after_turn, written_turns_at, next_written_turn}
use Rattle.tables.specs.Turns.{turn_over}
use Rattle.tables.specs.declared.seat.Seat.{Seat}
use Rattle.turns.specs.RoundOfTurns.{RoundRules, after_written_turn, in_play, turned, turns_of}

-- no seat acts without lines
pub no_lines : {TurnActions : Type 0} (rules : RoundRules TurnActions) (seats : ℕ)
    → rules.has_acted rules.nothing ≡ false → IsIdleWithoutLines (turns_of rules seats)
no_lines rules seats idle = λ seat events. idle

-- the turns are not over while nothing ends them and not all have passed
pub going_on : (ended : Bool) (seats passes : ℕ) → ended ≡ false → passes < seats
    → (ended || nat_le seats passes) ≡ false
going_on ended seats passes unended fewer = grind (arith, nat_tests)

-- they are over where something ends them
pub something_ends_them : (ended : Bool) (seats passes : ℕ) → ended ≡ true → (ended || nat_le seats passes) ≡ true
something_ends_them ended seats passes done = grind (arith, nat_tests)

-- they are over where all have passed
pub all_have_passed : (ended : Bool) (seats passes : ℕ) → seats ≤ passes → (ended || nat_le seats passes) ≡ true
all_have_passed ended seats passes all = grind (arith, nat_tests)

-- a seat's written turns are those of what is left of its sheet
written_turns_here : (unruled : List SheetParts) (seat : ℕ) (d : SheetParts) → seat < length unruled
    → written_turns_at (map written_turns_of unruled) seat ≡ written_turns_of (get_or unruled seat d)
written_turns_here unruled seat d within =
    ap (λ written_turns. unwrap_or written_turns []) (slice_get-map written_turns_of unruled seat
    ∙ ap (λ found. option_map written_turns_of found) (slice_get-get_or unruled seat d within))

-- a round in play after a turn, where these written turns are left
abbrev played : ℕ → ℕ → ℕ → Turned (List Event) → List (List (List Numbered)) → InPlay (List Event) Numbered
played seats seat passes turn written_turns =
    record {
      now = if turn.acted then turn.state else turn.state ++ Passes (seat_at seat) ∷ [];
      seat = (left_of seats (seat_at seat)).0;
      passes = if turn.acted then 0 else passes + 1;
      written_turns = written_turns;
    }

module _ {TurnActions : Type 0} (rules : RoundRules TurnActions) (seats : ℕ) (events : List Event) (seat passes : ℕ)
    (unruled : List SheetParts) (d new : SheetParts) (taker : Seat) (within : seat < length unruled)
    (is_seat : taker ≡ seat_at seat) (dropped : written_turns_of new ≡ drop 1 (written_turns_of (get_or unruled seat d))) where
  -- a turn that took the next written turn of a seat's sheet is one turn of the round
  turn_taken : (turn : Turned (List Event)) →
      turn ≡ turned rules (after_written_turn rules seats taker events (next_written_turn (written_turns_of (get_or unruled seat d)))) →
      played seats seat passes turn (map written_turns_of (set unruled seat new))
      ≡ after_turn (turns_of rules seats) (in_play events seat passes (map written_turns_of unruled))
  turn_taken turn taken =
      let here = written_turns_here unruled seat d within in
      let same_turn : turn ≡ turned rules (after_written_turn rules seats (seat_at seat) events
      (next_written_turn (written_turns_at (map written_turns_of unruled) seat))) =
      taken
      ∙ ap (λ (s : Seat). turned rules (after_written_turn rules seats s events
      (next_written_turn (written_turns_of (get_or unruled seat d))))) is_seat
      ∙ ap (λ (written_turns : List (List Numbered)). turned rules
      (after_written_turn rules seats (seat_at seat) events (next_written_turn written_turns))) (sym here)
      in
      let same_written_turns : map written_turns_of (set unruled seat new)
      ≡ set (map written_turns_of unruled) seat (drop 1 (written_turns_at (map written_turns_of unruled) seat)) =
      map-set written_turns_of unruled seat new
      ∙ ap (λ (written_turns : List (List Numbered)). set (map written_turns_of unruled) seat written_turns)
      (dropped ∙ ap (λ (written_turns : List (List Numbered)). drop 1 written_turns) (sym here))
      in
      ap (λ (written_turns : List (List (List Numbered))). played seats seat passes turn written_turns) same_written_turns
      ∙ ap (λ (turn : Turned (List Event)). turn_over (turns_of rules seats)
      (in_play events seat passes (map written_turns_of unruled)) turn) same_turn

  -- a turn in which the seat acted
  pub turn_acted : (after : List Event) (acted : Bool) → acted ≡ true
      → record { state = after; acted = acted } ≡ turned rules
      (after_written_turn rules seats taker events (next_written_turn (written_turns_of (get_or unruled seat d))))
      → in_play after (left_of seats (seat_at seat)).0 0 (map written_turns_of (set unruled seat new))
      ≡ after_turn (turns_of rules seats) (in_play events seat passes (map written_turns_of unruled))
  turn_acted after acted has_acted taken =
      ap (λ (b : Bool). played seats seat passes (record { state = after; acted = b })
      (map written_turns_of (set unruled seat new))) (sym has_acted)
      ∙ turn_taken (record { state = after; acted = acted }) taken

  -- a turn in which it passed
  pub turn_passed : (mid after : List Event) (acted : Bool) → acted ≡ false
      → record { state = mid; acted = acted } ≡ turned rules
      (after_written_turn rules seats taker events (next_written_turn (written_turns_of (get_or unruled seat d))))
      → after ≡ mid ++ Passes (seat_at seat) ∷ [] → in_play after (left_of seats (seat_at seat)).0 (passes + 1)
      (map written_turns_of (set unruled seat new)) ≡ after_turn (turns_of rules seats)
      (in_play events seat passes (map written_turns_of unruled))
  turn_passed mid after acted not_acted taken recorded =
      ap (λ (events : List Event). in_play events (left_of seats (seat_at seat)).0 (passes + 1)
      (map written_turns_of (set unruled seat new))) recorded
      ∙ ap (λ (b : Bool). played seats seat passes (record { state = mid; acted = b })
      (map written_turns_of (set unruled seat new))) (sym not_acted)
      ∙ turn_taken (record { state = mid; acted = acted }) taken

-- the seat at the left of a seat, or the first, is at the table
pub left_within : (seats : ℕ) (actor : Option Seat) → 0 < seats → (left_of_actor seats actor).0 < seats
left_within seats None some = some
left_within seats (Some actor) some = grind (arith, nat_tests)

-- the holder of priority is at the table
pub priority_within : (seats : ℕ) (events : List Event) → 0 < seats → (priority_of seats events).0 < seats
priority_within seats events some = left_within seats (last_said actor_of events) some

-- the seat at the left of a seat, or the first, has one of the 256 numbers
left_at_table : (seats : ℕ) (actor : Option Seat) → 0 < seats → (left_of_actor seats actor).0 < min seats 256
left_at_table seats None some = omega arith
left_at_table seats (Some actor) some = grind (arith, nat_tests)

-- so has the holder of priority
pub priority_at_table : (seats : ℕ) (events : List Event) → 0 < seats → (priority_of seats events).0 < min seats 256
priority_at_table seats events some = left_at_table seats (last_said actor_of events) some
