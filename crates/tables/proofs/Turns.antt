-- Turns to the left. Each lap of the table takes a written turn of each seat. So after 512 laps
-- none is left, and in the next lap all pass.
use Rattle.std.proofs.Common.{◌≡◌, ℕ, zero, suc, ◌+◌, ◌-◌, ◌*◌, ◌<◌, ◌≤◌, Bool, true, false, nat_le, nat_lt, min}
use Rattle.std.proofs.Common.{if◌then◌else◌, List, [], length, drop, set, sum_by, unwrap_or, refl, sym, subst, ap, ◌∙◌}
use Rattle.std.proofs.Common.{inl, inr, arith}
use Rattle.std.proofs.Math.Nat.{mul-le-mul_right}
use Rattle.std.proofs.lemmas.Bool.{cases_eq, cases_lt}
use Rattle.std.proofs.lemmas.Bool.Decides.{nat_tests}
use Rattle.std.proofs.lemmas.List.{get_or-set_same, get_or-set_other, length-drop, nil_from_length, set_past}
use Rattle.std.proofs.lemmas.List.Sums.{sum_by-set}
use Rattle.std.proofs.lemmas.Option.{slice_get_past, unwrap_or-slice_get}
use Rattle.tables.proofs.Steps.{EndsWithin, ends_once, ends_within, iterate_first, iterate_plus}
use Rattle.tables.specs.Seat.{left_of, seat_at}
use Rattle.tables.specs.Steps.{iterate}
use Rattle.tables.specs.Turns.{CanBegin, EndSoon, InPlay, IsIdleWithoutLines, Play, Turned, TurnsEnd, after_turn}
use Rattle.tables.specs.Turns.{written_turns_at, written_turns_left, next_written_turn, turn_over, turns_most}
use Rattle.tables.specs.Turns.{turns_over}

-- how many written turns a seat has
abbrev count_at : {Line : Type 0} → List (List (List Line)) → ℕ → ℕ
count_at written_turns seat = length (written_turns_at written_turns seat)

-- the written turns after a seat has taken its next one
abbrev taken : {Line : Type 0} → List (List (List Line)) → ℕ → List (List (List Line))
taken written_turns seat = set written_turns seat (drop 1 (written_turns_at written_turns seat))

-- a seat past the end has no written turns
none_past : {Line : Type 0} (written_turns : List (List (List Line))) (seat : ℕ) → length written_turns ≤ seat
    → count_at written_turns seat ≡ 0
none_past written_turns seat past = ap (λ found. length (unwrap_or found [])) (slice_get_past written_turns seat past)

-- the seat that has taken a written turn has one less
one_less : {Line : Type 0} (written_turns : List (List (List Line))) (seat : ℕ)
    → count_at (taken written_turns seat) seat ≡ count_at written_turns seat - 1
one_less written_turns seat =
    elim (cases_lt seat (length written_turns)) [
      | inl within ↦
          ap (λ its. length its) (unwrap_or-slice_get (taken written_turns seat) seat []
          ∙ get_or-set_same written_turns seat (drop 1 (written_turns_at written_turns seat)) [] within)
          ∙ length-drop 1 (written_turns_at written_turns seat)
      | inr past ↦
          let none = none_past written_turns seat past in
          ap (λ all. count_at all seat) (set_past written_turns seat (drop 1 (written_turns_at written_turns seat)) past) ∙ omega arith
    ]

-- another seat has the written turns that it had
same_elsewhere : {Line : Type 0} (written_turns : List (List (List Line))) (seat other : ℕ) → (other ≡ seat → ⊥)
    → count_at (taken written_turns seat) other ≡ count_at written_turns other
same_elsewhere written_turns seat other apart =
    ap (λ its. length its) (unwrap_or-slice_get (taken written_turns seat) other []
    ∙ get_or-set_other written_turns seat other (drop 1 (written_turns_at written_turns seat)) [] apart
    ∙ sym (unwrap_or-slice_get written_turns other []))

-- how many seats to the left of a seat another is
abbrev ahead : ℕ → ℕ → ℕ → ℕ
ahead table seat other = if nat_le seat other then other - seat else other + table - seat

-- 1 for a seat among the next this many, itself the first
abbrev to_come : ℕ → ℕ → ℕ → ℕ → ℕ
to_come table seat count other = if nat_lt (ahead table seat other) count then 1 else 0

-- at the table each seat has at most this many written turns, and the next few of them one more
record Bounded {State Line : Type 0} (table most more : ℕ) (at : InPlay State Line) : Type 0 where
  pub at_table : at.seat < table
  pub bound : (other : ℕ) → other < table → count_at at.written_turns other ≤ most + to_come table at.seat more other

-- the number of the seat at the left
abbrev left_number : ℕ → ℕ → ℕ
left_number table seat = if nat_lt (seat + 1) table then seat + 1 else 0

-- another seat is one nearer from the left
one_nearer : (table seat more other : ℕ) → seat < table → other < table → (other ≡ seat → ⊥)
    → to_come table seat (suc more) other ≡ to_come table (left_number table seat) more other
one_nearer table seat more other at_table within apart = grind (arith, nat_tests)

-- the left of a seat stays at the table
left_at_table : (seats seat : ℕ) → seat < min seats 256 → (left_of seats (seat_at seat)).0 < min seats 256
left_at_table seats seat at_table = grind (arith, nat_tests)

-- the left of a seat by numbers
left_is : (seats seat : ℕ) → (left_of seats (seat_at seat)).0 ≡ left_number (min seats 256) seat
left_is seats seat = grind (arith, nat_tests)

-- after a turn one fewer of the next seats has one more
bound_after : {State Line : Type 0} (play : Play State Line) (most more : ℕ) (at : InPlay State Line)
    → Bounded (min play.seats 256) most (suc more) at → (other : ℕ) → other < min play.seats 256
    → count_at (taken at.written_turns at.seat) other ≤ most
    + to_come (min play.seats 256) (left_number (min play.seats 256) at.seat) more other
bound_after play most more at before other within =
    elim (cases_eq other at.seat) [
      | inl same ↦
          let less : count_at (taken at.written_turns at.seat) other ≡ count_at at.written_turns other - 1 =
          ap (λ (seat : ℕ). count_at (taken at.written_turns at.seat) seat) same ∙ one_less at.written_turns at.seat
          ∙ ap (λ (seat : ℕ). count_at at.written_turns seat - 1) (sym same)
          in
          let had = before.bound other within in
          grind (arith, less, had)
      | inr apart ↦
          let same = same_elsewhere at.written_turns at.seat other apart in
          let nearer = one_nearer (min play.seats 256) at.seat more other before.at_table within apart in
          let had = before.bound other within in
          omega (arith, same, nearer, had)
    ]

-- a turn is one seat of a lap
bounded_after : {State Line : Type 0} (play : Play State Line) (most more : ℕ) (at : InPlay State Line)
    → Bounded (min play.seats 256) most (suc more) at → Bounded (min play.seats 256) most more (after_turn play at)
bounded_after play most more at before =
    record {
      at_table = left_at_table play.seats at.seat before.at_table;
      bound = λ other within. subst (λ (seat : ℕ). count_at (taken at.written_turns at.seat) other
          ≤ most + to_come (min play.seats 256) seat more other) (sym (left_is play.seats at.seat))
          (bound_after play most more at before other within);
    }

-- the seats that are still to come in a lap
lap : {State Line : Type 0} (play : Play State Line) (most more : ℕ) (at : InPlay State Line)
    → Bounded (min play.seats 256) most more at → Bounded (min play.seats 256) most 0
    (iterate (after_turn play) more at)
lap play most zero at before = before
lap {State} {Line} play most (suc more) at before =
    subst (λ (to : InPlay State Line). Bounded (min play.seats 256) most 0 to)
    (sym (iterate_first (after_turn play) more at))
    (lap play most more (after_turn play at) (bounded_after play most more at before))

-- at the table no seat is a whole lap ahead
all_ahead : (table seat other : ℕ) → seat < table → other < table → to_come table seat table other ≡ 1
all_ahead table seat other at_table within = grind (arith, nat_tests)

-- a lap begins
lap_begins : {State Line : Type 0} (table most : ℕ) (at : InPlay State Line) → Bounded table (suc most) 0 at
    → Bounded table most table at
lap_begins table most at before =
    record {
      at_table = before.at_table;
      bound = λ other within. let had = before.bound other within in let all =
          all_ahead table at.seat other before.at_table within in grind (arith, had, all);
    }

-- this many laps take this many written turns of each seat
laps : {State Line : Type 0} (play : Play State Line) (most : ℕ) (at : InPlay State Line)
    → Bounded (min play.seats 256) most 0 at → Bounded (min play.seats 256) 0 0
    (iterate (after_turn play) (most * min play.seats 256) at)
laps {State} {Line} play zero at before =
    let none : 0 ≡ 0 * min play.seats 256 = omega arith in
    subst (λ (n : ℕ). Bounded (min play.seats 256) 0 0 (iterate (after_turn play) n at)) none before
laps {State} {Line} play (suc most) at before =
    let table : ℕ = min play.seats 256 in
    let one_lap = lap play most table at (lap_begins table most at before) in
    let together : iterate (after_turn play) (most * table) (iterate (after_turn play) table at)
    ≡ iterate (after_turn play) (suc most * table) at =
    let count : most * table + table ≡ suc most * table = omega arith in
    sym (iterate_plus (after_turn play) (most * table) table at) ∙ ap (λ (n : ℕ). iterate (after_turn play) n at) count
    in
    subst (λ (to : InPlay State Line). Bounded table 0 0 to) together
    (laps play most (iterate (after_turn play) table at) one_lap)

-- where no written turns are left, none is left after a turn
none_after : {State Line : Type 0} (play : Play State Line) (at : InPlay State Line)
    → Bounded (min play.seats 256) 0 0 at → Bounded (min play.seats 256) 0 0 (after_turn play at)
none_after play at before =
    bounded_after play 0 0 at (record {
      at_table = before.at_table;
      bound = λ other within. let had =
          before.bound other within in grind (arith, had);
    })

-- a seat without written turns does not act
passes_without : {State Line : Type 0} (play : Play State Line) → IsIdleWithoutLines play → (at : InPlay State Line)
    → count_at at.written_turns at.seat ≡ 0 → (play.turn (seat_at at.seat) (next_written_turn (written_turns_at at.written_turns at.seat))
    at.now).acted ≡ false
passes_without {State} {Line} play idle at none =
    ap (λ (written_turns : List (List Line)). (play.turn (seat_at at.seat) (next_written_turn written_turns) at.now).acted)
    (nil_from_length (written_turns_at at.written_turns at.seat) none)
    ∙ idle (seat_at at.seat) at.now

-- a pass is one more
one_pass_more : {State Line : Type 0} (play : Play State Line) (at : InPlay State Line) (turned : Turned State)
    → turned.acted ≡ false → (turn_over play at turned).passes ≡ at.passes + 1
one_pass_more play at turned passed = ap (λ (b : Bool). if b then 0 else at.passes + 1) passed

-- this many passes in succession
record Passed {State Line : Type 0} (table passes : ℕ) (at : InPlay State Line) : Type 0 where
  pub none_left : Bounded table 0 0 at
  pub all_passed : at.passes ≡ passes

-- where no written turns are left all pass
all_pass : {State Line : Type 0} (play : Play State Line) → IsIdleWithoutLines play
    → (turns : ℕ) (at : InPlay State Line) → Bounded (min play.seats 256) 0 0 at
    → Passed (min play.seats 256) (at.passes + turns) (iterate (after_turn play) turns at)
all_pass play idle zero at none = record { none_left = none; all_passed = omega arith }
all_pass play idle (suc turns) at none =
    let before = all_pass play idle turns at none in
    let here = iterate (after_turn play) turns at in
    let had = before.none_left.bound here.seat before.none_left.at_table in
    let passed = passes_without play idle here (grind (arith, had)) in
    let one = one_pass_more play here (play.turn (seat_at here.seat) (next_written_turn (written_turns_at here.written_turns here.seat))
    here.now) passed in
    record {
      none_left = none_after play here before.none_left;
      all_passed = one ∙ ap (λ (n : ℕ). n + 1) before.all_passed ∙ omega arith;
    }

-- the turns are over where all have passed
over_where_all_passed : {State Line : Type 0} (play : Play State Line) (at : InPlay State Line)
    → play.seats ≤ at.passes → turns_over play at ≡ true
over_where_all_passed play at passed = grind (arith, nat_tests)

-- turns that can begin have bounds
bounded_at_start : {State Line : Type 0} (play : Play State Line) (start : InPlay State Line) → CanBegin play start
    → 0 < play.seats → Bounded (min play.seats 256) 512 0 start
bounded_at_start play start begins some =
    record {
      at_table = begins.at_table some;
      bound = λ other within. let few = begins.few_written_turns other in omega (arith, few);
    }

-- the turns end after 512 laps and one in which all pass, if not before
over_in_time : {State Line : Type 0} (play : Play State Line) (start : InPlay State Line) → IsIdleWithoutLines play
    → CanBegin play start → 0 < play.seats → turns_over play
    (iterate (after_turn play) (play.seats + 512 * min play.seats 256) start) ≡ true
over_in_time {State} {Line} play start idle begins some =
    let laps_end = laps play 512 start (bounded_at_start play start begins some) in
    let there = iterate (after_turn play) (512 * min play.seats 256) start in
    let last = all_pass play idle play.seats there laps_end in
    let all = last.all_passed in
    ap (λ (to : InPlay State Line). turns_over play to)
    (iterate_plus (after_turn play) play.seats (512 * min play.seats 256) start)
    ∙ over_where_all_passed play (iterate (after_turn play) play.seats there) (omega (arith, all))

-- an end within these turns is soon
soon : {State Line : Type 0} (play : Play State Line) (start : InPlay State Line) (most : ℕ) → most ≤ 513 * play.seats
    → EndsWithin (after_turn play) (turns_over play) start most → EndSoon play start
soon play start most few within =
    let steps = within.few in
    record { last = within.last; ends = within.ends; few_turns = omega (arith, steps) }

-- turns that can begin end soon, where no seat acts without lines
pub turns_end_soon : {State Line : Type 0} (play : Play State Line) (start : InPlay State Line)
    → IsIdleWithoutLines play → CanBegin play start → EndSoon play start
turns_end_soon play start idle begins =
    elim (cases_lt 0 play.seats) [
      | inl some ↦ soon play start (play.seats + 512 * min play.seats 256) (grind arith)
          (ends_within (after_turn play) (turns_over play) (play.seats + 512 * min play.seats 256) start
          (over_in_time play start idle begins some))
      | inr none ↦ soon play start 0 (omega arith) (ends_within (after_turn play) (turns_over play) 0 start
          (over_where_all_passed play start (omega arith)))
    ]

-- turns have at most one end
pub turns_end_once : {State Line : Type 0} (play : Play State Line) (start a b : InPlay State Line)
    → TurnsEnd play start a → TurnsEnd play start b → a ≡ b
turns_end_once play start a b first second = ends_once (after_turn play) (turns_over play) start a b first second

-- a turn takes a written turn of its seat, if one is left
one_written_turn_less : {Line : Type 0} (written_turns : List (List (List Line))) (seat : ℕ)
    → sum_by (λ its. length its) (taken written_turns seat) + count_at written_turns seat
    ≡ sum_by (λ its. length its) written_turns + (count_at written_turns seat - 1)
one_written_turn_less written_turns seat =
    elim (cases_lt seat (length written_turns)) [
      | inl within ↦
          let sums = sum_by-set (λ its. length its) written_turns seat (drop 1 (written_turns_at written_turns seat)) [] within in
          let here = ap (λ its. length its) (unwrap_or-slice_get written_turns seat []) in
          let dropped = length-drop 1 (written_turns_at written_turns seat) in
          omega (arith, sums, here, dropped)
      | inr past ↦
          let none = none_past written_turns seat past in
          let same = ap (λ all. sum_by (λ its. length its) all)
          (set_past written_turns seat (drop 1 (written_turns_at written_turns seat)) past) in
          omega (arith, none, same)
    ]

-- turns that are not over wait for a pass
not_all_passed : {State Line : Type 0} (play : Play State Line) (at : InPlay State Line) → turns_over play at ≡ false
    → at.passes < play.seats
not_all_passed play at going = grind (arith, nat_tests)

-- a turn in which the seat acted
fewer_acted : (left after seats passes : ℕ) → after + 1 ≤ left → passes < seats
    → after * seats + (seats - 0) < left * seats + (seats - passes)
fewer_acted left after seats passes less going =
    let product = mul-le-mul_right seats less in
    omega (arith, product)

-- a turn in which it passed
fewer_passed : (left after seats passes : ℕ) → after ≤ left → passes < seats
    → after * seats + (seats - (passes + 1)) < left * seats + (seats - passes)
fewer_passed left after seats passes less going =
    let product = mul-le-mul_right seats less in
    omega (arith, product)

-- a seat that acted had a written turn
had_a_written_turn : {State Line : Type 0} (play : Play State Line) → IsIdleWithoutLines play → (at : InPlay State Line)
    → (play.turn (seat_at at.seat) (next_written_turn (written_turns_at at.written_turns at.seat)) at.now).acted ≡ true
    → 0 < count_at at.written_turns at.seat
had_a_written_turn play idle at acted =
    elim (cases_lt 0 (count_at at.written_turns at.seat)) [
      | inl some ↦ some
      | inr none ↦ let passed = passes_without play idle at (omega arith) in cc
    ]

-- each turn brings the end nearer
pub turns_most_falls : {State Line : Type 0} (play : Play State Line) (at : InPlay State Line)
    → IsIdleWithoutLines play → turns_over play at ≡ false → turns_most play (after_turn play at) < turns_most play at
turns_most_falls {State} {Line} play at idle going =
    let turned : Turned State = play.turn (seat_at at.seat) (next_written_turn (written_turns_at at.written_turns at.seat)) at.now in
    let fewer = not_all_passed play at going in
    let less = one_written_turn_less at.written_turns at.seat in
    let after : ℕ = sum_by (λ its. length its) (taken at.written_turns at.seat) in
    elim turned.acted as (λ (b : Bool). turned.acted ≡ b
    → after * play.seats + (play.seats - (if b then 0 else at.passes + 1)) < turns_most play at) [
      | true ↦ λ acted. let had = had_a_written_turn play idle at acted in fewer_acted (written_turns_left at) after play.seats
          at.passes (omega (arith, had, less)) fewer
      | false ↦ λ passed. fewer_passed (written_turns_left at) after play.seats at.passes (omega (arith, less)) fewer
    ]
    refl
