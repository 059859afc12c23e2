-- What is in reach bounds what the next trains earn. A run begins at a token that lies there, and
-- reaches no stop that does not. So each of the next trains that are alike earns at most a sum. It
-- has the level for each stop of its run, what the stops in reach are worth beyond it, and as much
-- as two of them at which it ends.
use Rattle.std.proofs.Common.{◌≡◌, ℕ, zero, suc, ◌+◌, ◌-◌, ◌*◌, ◌<◌, ◌≤◌, Bool, true, false, not, nat_lt, inl}
use Rattle.std.proofs.Common.{inr, Some, None, List, [], ◌∷◌, length, get_or, set, slice_get, refl, sym, ap}
use Rattle.std.proofs.Common.{subst, ◌∙◌, arith, length-set, suc-mul, get_or-set_same}
use Rattle.std.proofs.lemmas.Bool.{lt-ltb}
use Rattle.search_task.specs.declared.task.Segment.{Segment}
use Rattle.search_task.specs.declared.task.Task.{Task}
use Rattle.search_task.specs.declared.task.Leg.{Leg}
use Rattle.best_run.specs.declared.state.Assigned.{Assigned}
use Rattle.best_run.specs.declared.state.PartialRun.{PartialRun}
use Rattle.best_run.specs.Ahead.{IsClosed, LiesAhead, beyond, ends_by, goes_back, goes_on, one_end}
use Rattle.best_run.specs.Ahead.{two_ends}
use Rattle.best_run.specs.Canonical.{AreCapped, IsNear}
use Rattle.best_run.specs.declared.canonical.InReach.{InReach}
use Rattle.search_task.specs.Fit.{IsFit}
use Rattle.best_run.specs.Moves.{Completes, EarnsAtMost, MayBegin, Move, along, begin, begun, between, go}
use Rattle.best_run.specs.Moves.{may_come, own_before, partial, pass, passed, finish, total_after, turn, using}
use Rattle.search_task.specs.Spots.{ends_in, node_at, stop_in, value_in}
use Rattle.search_task.specs.Crossed.{misses}
use Rattle.best_run.specs.Suffix.{AreEqual, ArePrunedByCap, EarnAtMost}
use Rattle.search_task.specs.Legs.{AreReady, IsStop, legs_at}
use Rattle.best_run.proofs.Along.{ByLeg, by_leg, leg_fits}
use Rattle.best_run.proofs.Beyond.{Within, beyond_spent, one_spent, two_spent, worth_less}
use Rattle.search_task.proofs.Departing.{is_stop, legs_of}
use Rattle.search_task.proofs.Described.{among_place}
use Rattle.best_run.proofs.Eased.{rest_low}
use Rattle.best_run.proofs.Hopeless.{Follows, Leads, but, but_unset, but_within, first_follows, follows_go}
use Rattle.best_run.proofs.Hopeless.{low_canonical, one_fewer, passes, spend, still, still_leg}
use Rattle.best_run.proofs.Lasting.{counts_plain}
use Rattle.best_run.proofs.Split.{own_length}
use Rattle.search_task.proofs.Booleans.{both_first, both_second}
use Rattle.best_run.proofs.Equal.{one_more}

-- a run that begins where none passes may still end at one stop, from either side
one_side : (ending : Bool) (one two : ℕ) → ends_by true (not ending) one two ≡ ends_by (not ending) true one two
one_side true one two = refl
one_side false one two = refl

-- a run that reaches a stop after its first may visit two
two_left : (most : ℕ) → nat_lt 0 (most - 1) ≡ true → nat_lt 0 most ≡ true
two_left zero is = is
two_left (suc most) is = lt-ltb 0 (suc most) (omega arith)

one_ran : (all total count cap bound : ℕ) → all ≤ total + cap + (count * cap + bound)
    → all ≤ total + (suc count * cap + bound)
one_ran all total count cap bound low = omega (arith, low, suc-mul count cap)

-- a leg leads from a stop that has none
no_leg : (legs : List Leg) (place : ℕ) (leg : Leg) → legs ≡ [] → slice_get legs place ≡ Some leg → ⊥
no_leg [] zero leg none at = let wrong : None ≡ Some leg = at in cc
no_leg [] (suc place) leg none at = let wrong : None ≡ Some leg = at in cc
no_leg (first ∷ legs) place leg none at = cc

module _ (task : Task) (fit : IsFit task) (ready : AreReady task) (reach : List Bool) (level most cap bound : ℕ)
    (some : 0 < most) (low : (most * level + beyond level task.spots.items reach)
    + two_ends level task.spots.items reach ≤ cap) where
  -- all that a run may reach from a token lies in reach
  look_of : (assigned : Assigned) → (stop index : ℕ) → IsNear task assigned.used stop reach
      → IsClosed task assigned (begun task assigned stop index) reach
  look_of assigned stop index near =
      record {
        home = λ once passes place leg at later taken. near.here place leg at
            (both_second (may_come (stop_in (node_at task leg.segment.to)) (begun task assigned stop index)
            leg.segment.to) (misses assigned.used leg.segment.borders.items) taken);
        all = λ spot lies passes place leg at taken. near.all spot lies passes place leg at
            (both_second (may_come (stop_in (node_at task leg.segment.to)) (begun task assigned stop index)
            leg.segment.to) (misses assigned.used leg.segment.borders.items) taken);
      }

  -- what is left once the stop where a run begins is visited
  first_spent : (assigned : Assigned) (stop index : ℕ) → get_or task.trains.items assigned.next 0 ≡ most
      → IsStop task stop → LiesAhead reach stop → nat_lt 0 (get_or task.trains.items assigned.next 0 - 1) ≡ true
      → let run = begun task assigned stop index in value_in (node_at task stop)
      + ((run.left * level + beyond level task.spots.items (but reach run.visited))
      + ends_by true (goes_back task run) (one_end level task.spots.items (but reach run.visited))
      (two_ends level task.spots.items (but reach run.visited)))
      ≤ (most * level + beyond level task.spots.items reach) + two_ends level task.spots.items reach
  first_spent assigned stop index same is lies more =
      let run : PartialRun = begun task assigned stop index in
      let was : get_or run.visited stop false ≡ true =
      get_or-set_same (own_before task stop) stop true false (omega (arith, own_length task stop, is.0)) in
      let within : Within (but reach run.visited) (set reach stop false) = but_unset reach run.visited stop was in
      let within_all : Within (but reach run.visited) reach = but_within reach run.visited in
      let left : (get_or task.trains.items assigned.next 0 - 1) * level + level ≡ most * level =
      one_fewer (get_or task.trains.items assigned.next 0) level
      (two_left (get_or task.trains.items assigned.next 0) more) ∙ ap (λ (n : ℕ). n * level) same in
      let sides = one_side (ends_in (node_at task stop)) (one_end level task.spots.items (but reach run.visited))
      (two_ends level task.spots.items (but reach run.visited)) in
      let spent = spend (ends_in (node_at task stop)) true (value_in (node_at task stop)) level (most * level)
      ((get_or task.trains.items assigned.next 0 - 1) * level)
      (beyond level task.spots.items reach) (beyond level task.spots.items (but reach run.visited))
      (one_end level task.spots.items reach) (one_end level task.spots.items (but reach run.visited))
      (two_ends level task.spots.items reach) (two_ends level task.spots.items (but reach run.visited))
      left
      (omega (
        arith,
        beyond_spent level task.spots.items reach stop lies,
        (worth_less level task.spots.items
            (but reach run.visited) (set reach stop false) within).passed,
      ))
      (one_spent level task.spots.items reach stop lies)
      (omega (
        arith,
        two_spent level task.spots.items reach stop lies,
        (worth_less level task.spots.items
            (but reach run.visited) (set reach stop false) within).one,
      ))
      (worth_less level task.spots.items (but reach run.visited) reach within_all).one
      (worth_less level task.spots.items (but reach run.visited) reach within_all).two in
      omega (arith, sides, spent)

  -- the next train runs
  pub begin_low : (assigned : Assigned) → length assigned.used ≡ 279 → get_or task.trains.items assigned.next 0 ≡ most → (count : ℕ)
      → AreEqual task (assigned.next + 1) count most → EarnAtMost task (assigned.next + 1 + count) bound
      → (stop index : ℕ) (segment : Segment) (moves : List Move) → IsNear task assigned.used stop reach
      → MayBegin task assigned stop index segment
      → Completes task (partial (using assigned segment) (along task (begun task assigned stop index) segment)) moves
      → total_after task (partial (using assigned segment) (along task (begun task assigned stop index) segment)) moves
      ≤ assigned.total + cap + (count * cap + bound)
  begin_low assigned whole same count equal rest stop index segment moves near may completes =
      let is : IsStop task stop = is_stop task fit stop may.begins in
      let run : PartialRun = begun task assigned stop index in
      let look : IsClosed task assigned run reach = look_of assigned stop index near in
      let by : ByLeg task fit stop is.1 (legs_at task stop) (legs_of task ready stop is) assigned run index segment
      moves =
      by_leg task fit stop is.1 (legs_at task stop) (legs_of task ready stop is) assigned run whole index segment moves
      may.leads may.taken completes in
      let missed : misses assigned.used by.leg.segment.borders.items ≡ true =
      both_second (may_come (stop_in (node_at task by.leg.segment.to)) run by.leg.segment.to)
      (misses assigned.used by.leg.segment.borders.items) by.can in
      let fits = leg_fits task fit stop (legs_at task stop) (legs_of task ready stop is) is.1 by.leg
      (among_place (legs_at task stop) by.place_of by.leg by.is_leg) in
      let leads : Leads task fit ready assigned run reach look task.spots.items (counts_plain task assigned run)
      assigned
      run by.leg = record {
        from = stop;
        place = by.place_of;
        is_leg = by.is_leg;
        free = missed;
        lies =
            near.here by.place_of by.leg by.is_leg missed;
        fits = fits.0;
        stop =
            (fits.0.to, fits.1);
      } in
      let spots : length run.visited ≡ 744 = length-set (own_before task stop) stop true ∙ own_length task stop in
      let follows : Follows task fit ready assigned run reach look task.spots.items (counts_plain task assigned run)
      (goes_on task run) assigned run = first_follows task fit ready assigned run reach look task.spots.items
      (counts_plain task assigned run) is is whole spots in
      let on : Bool = passes task fit ready assigned run reach look task.spots.items (counts_plain task assigned run)
      by.leg.segment.to in
      let next : Follows task fit ready assigned run reach look task.spots.items (counts_plain task assigned run) on
      (using assigned by.leg.segment) (along task run by.leg.segment) =
      follows_go task fit ready assigned run reach look task.spots.items (counts_plain task assigned run)
      (goes_on task run) assigned run follows by.leg leads in
      let came : may_come true run by.leg.segment.to ≡ true =
      subst (λ (b : Bool). may_come b run by.leg.segment.to ≡ true) fits.1
      (both_first (may_come (stop_in (node_at task by.leg.segment.to)) run by.leg.segment.to)
      (misses assigned.used by.leg.segment.borders.items) by.can) in
      let more : nat_lt 0 run.left ≡ true = both_first (nat_lt 0 run.left)
      (not (get_or run.visited by.leg.segment.to false)) came in
      let first = first_spent assigned stop index same is near.lies more in
      let second = still_leg task fit ready assigned run reach look task.spots.items (counts_plain task assigned run)
      level (goes_on task run) assigned run follows by.leg leads by.can in
      let small : value_in (node_at task stop) + value_in (node_at task by.leg.segment.to)
      + still task fit ready assigned run reach look task.spots.items (counts_plain task assigned run) level on
      (along task run by.leg.segment) ≤ cap = omega (arith, first, second, low) in
      let canonical : AreEqual task (assigned.next + 1) count run.most =
      subst (AreEqual task (assigned.next + 1) count) (sym same) equal in
      let ran = low_canonical task fit ready assigned run reach look task.spots.items (counts_plain task assigned run)
      level cap (omega (arith, same, some)) count bound canonical rest (length by.later) by.later (omega arith)
      (using assigned by.leg.segment) (along task run by.leg.segment) on next
      (λ passes place leg at later taken. look.all by.leg.segment.to leads.lies passes place leg at taken) small
      by.completes in
      omega (arith, by.total, ran)

module _ (task : Task) (fit : IsFit task) (ready : AreReady task) (reach : InReach) (bound : ℕ)
    (some : 0 < reach.left) where
  -- the next train runs: if no leg leads from where it begins, it does not
  train_low : (assigned : Assigned) → AreCapped task assigned.used reach → length assigned.used ≡ 279
      → get_or task.trains.items assigned.next 0 ≡ reach.left → (count : ℕ)
      → AreEqual task (assigned.next + 1) count reach.left → EarnAtMost task (assigned.next + 1 + count) bound
      → (stop index : ℕ) (segment : Segment) (moves : List Move) → MayBegin task assigned stop index segment
      → Completes task (partial (using assigned segment) (along task (begun task assigned stop index) segment)) moves
      → total_after task (partial (using assigned segment) (along task (begun task assigned stop index) segment)) moves
      ≤ assigned.total + reach.cap + (count * reach.cap + bound)
  train_low assigned capped whole same count equal rest stop index segment moves may completes =
      let is : IsStop task stop = is_stop task fit stop may.begins in
      elim (capped stop is may.token) [
        | inl none ↦
            let by : ByLeg task fit stop is.1 (legs_at task stop) (legs_of task ready stop is) assigned
            (begun task assigned stop index) index segment moves =
            by_leg task fit stop is.1 (legs_at task stop) (legs_of task ready stop is) assigned
            (begun task assigned stop index) whole index segment moves may.leads may.taken completes in
            absurd (no_leg (legs_at task stop) by.place_of by.leg none by.is_leg)
        | inr from ↦
            let near : IsNear task assigned.used stop from.at.near =
            record { lies = from.at.lies; here = from.here; all = from.at.all } in
            begin_low task fit ready from.at.near from.at.level reach.left reach.cap bound some from.at.low assigned
            whole same count equal rest stop index segment moves near may completes
      ]

  equal_later : (assigned : Assigned) (count : ℕ) → AreEqual task assigned.next (suc count) reach.left
      → AreEqual task (assigned.next + 1) count reach.left
  equal_later assigned count equal train less =
      let there : assigned.next + suc train ≡ assigned.next + 1 + train =
      omega arith in subst (λ (n : ℕ). get_or task.trains.items n 0 ≡ reach.left) there
      (equal (suc train) (omega (arith, less)))

  -- each of the trains of one kind earns at most this much
  reach_low : (moves : List Move) (assigned : Assigned) → AreCapped task assigned.used reach → length assigned.used ≡ 279 → (count : ℕ)
      → AreEqual task assigned.next count reach.left → EarnAtMost task (assigned.next + count) bound
      → Completes task (between assigned) moves → total_after task (between assigned) moves
      ≤ assigned.total + (count * reach.cap + bound)
  reach_low moves assigned capped whole zero equal rest completes =
      let same : assigned.next + 0 ≡ assigned.next = omega arith in
      omega (
        arith,
        rest_low task assigned bound (subst (λ (n : ℕ). EarnAtMost task n bound) same rest) whole moves
            completes,
      )
  reach_low [] assigned capped whole (suc count) equal rest completes = omega arith
  reach_low (pass ∷ moves) assigned capped whole (suc count) equal rest completes =
      let here : assigned.next + suc count ≡ assigned.next + 1 + count = omega arith in
      one_more (total_after task (between (passed assigned)) moves) assigned.total count reach.cap bound
      (reach_low moves (passed assigned) capped whole count (equal_later assigned count equal)
      (subst (λ (n : ℕ). EarnAtMost task n bound) here rest) completes.1)
  reach_low (begin stop index segment ∷ moves) assigned capped whole (suc count) equal rest completes =
      let here : assigned.next + suc count ≡ assigned.next + 1 + count = omega arith in
      let first : assigned.next + 0 ≡ assigned.next = omega arith in
      let same : get_or task.trains.items assigned.next 0 ≡ reach.left =
      subst (λ (n : ℕ). get_or task.trains.items n 0 ≡ reach.left) first (equal 0 (omega arith)) in
      one_ran (total_after task (partial (using assigned segment) (along task (begun task assigned stop index) segment))
      moves) assigned.total count reach.cap bound
      (train_low assigned capped whole same count (equal_later assigned count equal)
      (subst (λ (n : ℕ). EarnAtMost task n bound) here rest) stop index segment moves completes.0 completes.1)
  reach_low (go index segment ∷ moves) assigned capped whole (suc count) equal rest completes = absurd completes.0
  reach_low (turn index segment ∷ moves) assigned capped whole (suc count) equal rest completes =
      absurd completes.0
  reach_low (finish ∷ moves) assigned capped whole (suc count) equal rest completes = absurd completes.0

pub reach_earns : (task : Task) → IsFit task → AreReady task → (assigned : Assigned) (reach : InReach) (best : ℕ)
    → AreCapped task assigned.used reach → length assigned.used ≡ 279
    → ArePrunedByCap task assigned.next reach.left reach.cap assigned.total best → EarnsAtMost task assigned best
reach_earns task fit ready assigned reach best are whole capped moves completes =
    omega (
      arith,
      capped.short,
      reach_low task fit ready reach capped.bound capped.some moves assigned are whole capped.equal
          capped.are_equal capped.rest completes,
    )
