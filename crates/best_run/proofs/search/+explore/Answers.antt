-- Each loop adds the next legs to those tried, and together they are all moves of the state.
use Rattle.std.proofs.Common.{◌≡◌, ℕ, ◌+◌, ◌<◌, Bool, List, [], ◌∷◌, true, false, inl, None, Some, drop, get_or, length}
use Rattle.std.proofs.Common.{slice_get, refl, sym, ap, subst, ◌∙◌, arith, le_trans}
use Rattle.std.proofs.lemmas.List.{drop_all, drop_more}
use Rattle.std.proofs.lemmas.Option.{slice_get_read}
use Rattle.best_run.specs.declared.memo.Found.{Found}
use Rattle.best_run.specs.declared.state.Assigned.{Assigned}
use Rattle.best_run.specs.declared.state.PartialRun.{PartialRun}
use Rattle.search_task.specs.declared.task.Task.{Task}
use Rattle.best_run.specs.declared.move_path.Mark.TheVariants.{Pass, Turn, Finish}
use Rattle.best_run.specs.Ahead.{IsInVain}
use Rattle.best_run.specs.MovePath.{go_along}
use Rattle.best_run.specs.Moves.{Explores, Takes, begun, begun_by, between, can_take, passed, with_run_finished}
use Rattle.best_run.specs.Moves.{partial, turned_back}
use Rattle.search_task.specs.Spots.{ends_in, node_at, stop_in}
use Rattle.search_task.specs.Legs.{AreLegsOf, IsListed, legs_at, legs_in}
use Rattle.best_run.specs.Moves.{TriesLegs}
use Rattle.best_run.proofs.Likened.{canonical_whole, low_canonical, low_back}
use Rattle.best_run.proofs.Along.{AnyLeg, IsLater, begin_by_legs, go_by_legs, leads_begin, leads_go, leads_turn}
use Rattle.best_run.proofs.Along.{turn_by_legs, leg_fits, legs_more, legs_none, legs_skip, legs_vain}
use Rattle.search_task.proofs.Described.{among_place}
use Rattle.best_run.proofs.Eased.{is_pruned_by_suffix}
use Rattle.best_run.proofs.Equal.{explores_capped}
use Rattle.best_run.proofs.Homes.{TriesHomes, home_before, home_first, home_last, home_more}
use Rattle.best_run.proofs.KeptStates.{explores_dominated, explores_kept}
use Rattle.best_run.proofs.Places.{less_by, one_at_side, one_low, one_of, room_by, take_free}
use Rattle.search_task.proofs.Places.{value_low}
use Rattle.best_run.proofs.Sooner.{begin_in_vain}
use Rattle.best_run.proofs.Traced.{explores_bounded, explores_from, takes_from, traces_both}
use Rattle.best_run.proofs.Vain.{turns_tried}
use Rattle.best_run.proofs.Tried.{begin_none, explores_between, explores_on, explores_partial, leads_pass, leads_finish}
use Rattle.best_run.proofs.Tried.{over_better, over_no_better, tries_on}
use Rattle.best_run.proofs.search.+explore.Goals as goal
use Rattle.best_run.proofs.search.+explore.Goals.{begin_runs-then-node, begin_runs-else-node, turn_back-then-run-leg}
use Rattle.best_run.proofs.search.+explore.Goals.{turn_back-else-run-leg, go_on-then-not-has_at, go_on-else-not-has_at}

pub begin_at-loop-index-init : goal.begin_at-loop-index-init
begin_at-loop-index-init t c =
    let from = c.departures-from.result.now in
    let are : AreLegsOf c.args.bounded.now.task.now c.args.stop from.legs.items =
    c.is_ready.ensures.ready.each c.args.stop from c.departures-from.ensures c.requires.begins.1 in
    legs_none c.args.bounded.now.task.now c.is_ready.ensures.fit c.args.stop c.requires.begins.1 from.legs.items are
    (between c.args.assigned.now) c.args.assigned.now
    (λ leg. begun c.args.bounded.now.task.now c.args.assigned.now c.args.stop leg.first) AnyLeg c.args.best.now

pub begin_at-loop-index-preserved : goal.begin_at-loop-index-preserved
begin_at-loop-index-preserved t c =
    let task = c.args.bounded.now.task.now in
    let assigned = c.args.assigned.now in
    let stop = c.args.stop in
    let index = c.loop-index.index in
    let from = c.departures-from.result.now in
    let leg = c.index-leg.result.now in
    let legs = from.legs.items in
    let are : AreLegsOf task stop legs = c.is_ready.ensures.ready.each stop from c.departures-from.ensures c.requires.begins.1 in
    let at : slice_get legs index ≡ Some leg = slice_get_read legs (length legs) index leg refl (omega arith)
    c.index-leg.ensures in
    let run = begun task assigned stop leg.first in
    legs_more task c.is_ready.ensures.fit stop c.requires.begins.1 legs are (between assigned) assigned
    (λ w. begun task assigned stop w.first) AnyLeg index leg _ _ _ at c.loop-index.invariant
    (takes_from task (between assigned) assigned run leg (go_along leg.steps.items) c.loop-index.best c.take.new.best
    c.trace_steps.new.self
    (leads_begin task c.is_ready.ensures.fit assigned c.marks_all_borders.ensures stop c.requires.begins.1 c.requires.token
    c.requires.next legs are index leg at)
    (subst (λ (r : PartialRun). Takes task assigned r leg.segment c.loop-index.best c.take.new.best)
    (c.by-run.ensures ∙ ap (λ (r : PartialRun). begun_by r leg.first) c.begun-begun.ensures) c.take.ensures)
    c.trace_steps.ensures)

pub begin_at-is_in_vain-requires : goal.begin_at-is_in_vain-requires
begin_at-is_in_vain-requires t c =
    let value = value_low c.args.bounded.now.task.now c.is_ready.ensures.fit c.args.stop in
    rw c.begun-begun.ensures (
    record { next = c.requires.next; at_stop = c.requires.begins; begun = c.requires.begins; room = omega (arith, value) }
    )

pub begin_at-returns-then-is_in_vain : goal.begin_at-returns-then-is_in_vain
begin_at-returns-then-is_in_vain t c =
    begin_in_vain c.args.bounded.now.task.now c.args.assigned.now c.args.stop c.args.best.now
    (subst (λ (r : PartialRun). IsInVain c.args.bounded.now.task.now c.args.assigned.now r c.args.best.now.amount)
    c.begun-begun.ensures (c.is_in_vain.ensures c.if-is_in_vain.true))

pub begin_at-returns : goal.begin_at-returns
begin_at-returns t c =
    let task = c.args.bounded.now.task.now in
    let from = c.departures-from.result.now in
    let are : AreLegsOf task c.args.stop from.legs.items =
    c.is_ready.ensures.ready.each c.args.stop from c.departures-from.ensures c.requires.begins.1 in
    begin_by_legs task c.is_ready.ensures.fit c.args.assigned.now c.marks_all_borders.ensures c.args.stop c.requires.begins.1
    from.legs.items are c.loop-index.index _ _ (omega arith) c.loop-index.invariant

pub go_on-loop-index-init : goal.go_on-loop-index-init
go_on-loop-index-init t c =
    let run = c.args.run.now in
    let from = c.departures-from.result.now in
    let are : AreLegsOf c.args.bounded.now.task.now run.head from.legs.items =
    c.is_ready.ensures.ready.each run.head from c.departures-from.ensures c.requires.may.at_stop.1 in
    legs_none c.args.bounded.now.task.now c.is_ready.ensures.fit run.head c.requires.may.at_stop.1 from.legs.items are
    (partial c.args.assigned.now run) c.args.assigned.now (λ leg. run) AnyLeg c.args.best.now

pub go_on-loop-index-preserved : goal.go_on-loop-index-preserved
go_on-loop-index-preserved t c =
    let task = c.args.bounded.now.task.now in
    let assigned = c.args.assigned.now in
    let run = c.args.run.now in
    let index = c.loop-index.index in
    let node = c.node-head.result.now in
    let from = c.departures-from.result.now in
    let leg = c.index-leg.result.now in
    let legs = from.legs.items in
    let there : node_at task run.head ≡ Some node =
    c.node-head.ensures.node in
    let passes = ap ends_in there ∙ c.if-head.false in
    let are : AreLegsOf task run.head legs = c.is_ready.ensures.ready.each run.head from c.departures-from.ensures c.requires.may.at_stop.1 in
    let at : slice_get legs index ≡ Some leg = slice_get_read legs (length legs) index leg refl (omega arith)
    c.index-leg.ensures in
    let Tried : Found → Type 0 = λ b. TriesLegs task (partial assigned run) assigned (λ w. run)
    (λ w. IsListed legs (index + 1) w × AnyLeg w) c.args.best.now b in
    elim c.if-not-has_at.branch [
      | go_on-then-not-has_at w ↦
          subst Tried (sym w.best-is)
          (legs_more task c.is_ready.ensures.fit run.head c.requires.may.at_stop.1 legs are (partial assigned run) assigned
          (λ v. run) AnyLeg index leg _ _ _ at c.loop-index.invariant
          (takes_from task (partial assigned run) assigned run leg (go_along leg.steps.items) c.loop-index.best
          w.take.new.best w.trace_steps.new.self
          (leads_go task c.is_ready.ensures.fit assigned c.marks_all_borders.ensures run c.requires.may.at_stop.1 passes legs
          are index leg at)
          w.take.ensures
          w.trace_steps.ensures))
      | go_on-else-not-has_at w ↦
          let here : slice_get (legs_at task run.head) index ≡ Some leg =
          ap (λ ws. slice_get ws index) (ap legs_in
          (c.departures-from.ensures)) ∙ at in
          subst Tried (sym w.best-is)
          (legs_vain task c.is_ready.ensures.fit run.head c.requires.may.at_stop.1 legs are (partial assigned run) assigned
          (λ v. run) AnyLeg index leg _ _ at
          (λ taken moves completes. le_trans (c.requires.ways.go passes index leg here
          (sym c.has_at.ensures ∙ w.if-not-has_at.false) taken moves completes) c.loop-index.invariant.grows)
          c.loop-index.invariant)
    ]

pub go_on-returns : goal.go_on-returns
go_on-returns t c =
    let task = c.args.bounded.now.task.now in
    let run = c.args.run.now in
    let from = c.departures-from.result.now in
    let are : AreLegsOf task run.head from.legs.items =
    c.is_ready.ensures.ready.each run.head from c.departures-from.ensures c.requires.may.at_stop.1 in
    go_by_legs task c.is_ready.ensures.fit c.args.assigned.now c.marks_all_borders.ensures run c.requires.may.at_stop.1
    from.legs.items are c.loop-index.index _ _ (omega arith) c.loop-index.invariant

pub assign_next-returns-then-best-assigned : goal.assign_next-returns-then-best-assigned
assign_next-returns-then-best-assigned t c =
    over_better c.args.bounded.now.task.now c.args.assigned.now c.args.best.now c.clear.new.self (omega arith) (omega arith)
    c.clear.ensures.marks c.clear.ensures.refused

pub assign_next-returns-else-best-assigned : goal.assign_next-returns-else-best-assigned
assign_next-returns-else-best-assigned t c =
    over_no_better c.args.bounded.now.task.now c.args.assigned.now c.args.best.now (omega arith) (omega arith)

pub assign_next-returns-then-is_pruned_by_suffix : goal.assign_next-returns-then-is_pruned_by_suffix
assign_next-returns-then-is_pruned_by_suffix t c =
    is_pruned_by_suffix c.args.bounded.now.task.now c.args.bounded.now.bounds.now c.args.assigned.now c.args.best.now c.args.bounded.now.are_bounds
    c.is_pruned_by_suffix.ensures.whole c.requires.next
    (c.is_pruned_by_suffix.ensures.short c.if-is_pruned_by_suffix.true)

pub assign_next-returns-then-are_pruned_by_cap : goal.assign_next-returns-then-are_pruned_by_cap
assign_next-returns-then-are_pruned_by_cap t c =
    explores_capped c.args.bounded.now.task.now c.args.assigned.now c.args.best.now c.is_pruned_by_suffix.ensures.whole
    (c.are_pruned_by_cap.ensures c.if-are_pruned_by_cap.true)

pub assign_next-returns-then-is_pruned_by_reach : goal.assign_next-returns-then-is_pruned_by_reach
assign_next-returns-then-is_pruned_by_reach t c =
    explores_bounded c.args.bounded.now.task.now (between c.args.assigned.now) c.args.best.now
    (c.is_pruned_by_reach.ensures c.if-is_pruned_by_reach.true)

pub assign_next-returns : goal.assign_next-returns
assign_next-returns t c =
    let task = c.args.bounded.now.task.now in
    let assigned = c.args.assigned.now in
    explores_kept task (between assigned) c.canonical-canonical.result c.args.best.now c.trace.new.self c.keep.new.self
    (low_back task c.is_ready.ensures.fit assigned None c.canonical-canonical.result c.is_pruned_by_suffix.ensures.whole
    c.canonical-canonical.ensures)
    (explores_between task assigned c.args.best.now c.begin_runs.new.best c.trace.new.self c.begin_runs.ensures
    (explores_from task (between assigned) (between (passed assigned)) (Pass ∷ []) c.begin_runs.new.best
    c.assign_next.new.best c.trace.new.self (leads_pass task assigned (omega arith))
    (subst (λ (s : Assigned). Explores task (between s) c.begin_runs.new.best c.assign_next.new.best)
    c.passed-passed.ensures c.assign_next.ensures)
    c.trace.ensures)
    (omega arith))
    c.keep.ensures.kept

pub assign_next-returns-then-dominates : goal.assign_next-returns-then-dominates
assign_next-returns-then-dominates t c =
    explores_dominated c.args.bounded.now.task.now c.is_ready.ensures.fit (between c.args.assigned.now) c.canonical-canonical.result
    c.args.best.now (canonical_whole c.args.bounded.now.task.now c.args.assigned.now None c.canonical-canonical.result
    c.is_pruned_by_suffix.ensures.whole c.canonical-canonical.ensures)
    (low_canonical c.args.bounded.now.task.now c.is_ready.ensures.fit c.is_ready.ensures.ready c.args.assigned.now None
    c.canonical-canonical.result c.is_pruned_by_suffix.ensures.whole c.canonical-canonical.ensures)
    (c.dominates.ensures c.if-dominates.true)

pub extend_with_memo-returns-then-dominates : goal.extend_with_memo-returns-then-dominates
extend_with_memo-returns-then-dominates t c =
    let assigned = c.args.assigned.now in
    let run = c.args.run.now in
    explores_dominated c.args.bounded.now.task.now c.is_ready.ensures.fit (partial assigned run) c.canonical_begun-canonical.result
    c.args.best.now (canonical_whole c.args.bounded.now.task.now assigned (Some run) c.canonical_begun-canonical.result
    c.marks_all_borders.ensures c.canonical_begun-canonical.ensures)
    (low_canonical c.args.bounded.now.task.now c.is_ready.ensures.fit c.is_ready.ensures.ready assigned (Some run)
    c.canonical_begun-canonical.result c.marks_all_borders.ensures c.canonical_begun-canonical.ensures)
    (c.dominates.ensures c.if-dominates.true)

pub extend_with_memo-returns : goal.extend_with_memo-returns
extend_with_memo-returns t c =
    let assigned = c.args.assigned.now in
    let run = c.args.run.now in
    explores_kept c.args.bounded.now.task.now (partial assigned run) c.canonical_begun-canonical.result c.args.best.now
    c.extend_without_memo.new.best c.keep.new.self (low_back c.args.bounded.now.task.now c.is_ready.ensures.fit assigned (Some run)
    c.canonical_begun-canonical.result c.marks_all_borders.ensures c.canonical_begun-canonical.ensures)
    c.extend_without_memo.ensures c.keep.ensures.kept

pub extend_without_memo-returns-then-may_finish : goal.extend_without_memo-returns-then-may_finish
extend_without_memo-returns-then-may_finish t c =
    let task = c.args.bounded.now.task.now in
    let assigned = c.args.assigned.now in
    let run = c.args.run.now in
    explores_partial task assigned run c.args.best.now c.turn_back.new.best c.trace.new.self
    (tries_on task assigned run c.args.best.now c.go_on.new.best c.turn_back.new.best c.go_on.ensures
    c.turn_back.ensures)
    (explores_from task (partial assigned run) (between (with_run_finished assigned run)) (Finish ∷ [])
    c.turn_back.new.best c.assign_next.new.best c.trace.new.self
    (leads_finish task assigned run (sym c.may_finish.ensures ∙ c.if-may_finish.true))
    (subst (λ (s : Assigned). Explores task (between s) c.turn_back.new.best c.assign_next.new.best)
    c.with_run_finished-with_run_finished.ensures c.assign_next.ensures)
    c.trace.ensures)

pub extend_without_memo-returns-else-may_finish : goal.extend_without_memo-returns-else-may_finish
extend_without_memo-returns-else-may_finish t c =
    let task = c.args.bounded.now.task.now in
    let assigned = c.args.assigned.now in
    let run = c.args.run.now in
    explores_on task assigned run c.args.best.now c.turn_back.new.best
    (sym c.may_finish.ensures ∙ c.if-may_finish.false)
    (tries_on task assigned run c.args.best.now c.go_on.new.best c.turn_back.new.best c.go_on.ensures
    c.turn_back.ensures)

pub take-extend-requires : goal.take-extend-requires
take-extend-requires t c =
    let task = c.args.bounded.now.task.now in
    let assigned = c.args.assigned.now in
    let run = c.args.run.now in
    let segment = c.args.segment.now in
    let to = stop_in (node_at task segment.to) in
    let taken : can_take task run assigned.used segment ≡ true = sym c.can_take.ensures ∙ c.if-can_take.true in
    let whole : length assigned.used ≡ 279 = c.using-using.ensures.whole in
    let free = take_free task run assigned.used segment taken in
    let less = less_by task assigned segment whole free false to refl c.requires.segment in
    let none = one_at_side in
    rw (c.using-using.ensures.using, c.along-next.ensures) (
      omega arith,
      record {
        next = c.requires.next;
        at_stop = (c.requires.segment.to, c.requires.to);
        begun = c.requires.begun;
        room = room_by task assigned run segment c.is_ready.ensures.fit whole free false to refl c.requires.segment
            c.requires.room;
      },
    )

pub begin_at-take-requires : goal.begin_at-take-requires
begin_at-take-requires t c =
    let task = c.args.bounded.now.task.now in
    let stop = c.args.stop in
    let index = c.loop-index.index in
    let from = c.departures-from.result.now in
    let leg = c.index-leg.result.now in
    let legs = from.legs.items in
    let are : AreLegsOf task stop legs = c.is_ready.ensures.ready.each stop from c.departures-from.ensures c.requires.begins.1 in
    let at : slice_get legs index ≡ Some leg = slice_get_read legs (length legs) index leg refl (omega arith)
    c.index-leg.ensures in
    let fits = leg_fits task c.is_ready.ensures.fit stop legs are c.requires.begins.1 leg (among_place legs index leg at) in
    let one = one_low (stop_in (node_at task stop)) in
    let value = value_low task c.is_ready.ensures.fit stop in
    rw (c.by-run.ensures, c.begun-begun.ensures) (
      omega arith,
      (c.requires.next, (fits.0, (fits.1, (c.requires.begins, omega arith)))),
    )

pub go_on-take-requires : goal.go_on-take-requires
go_on-take-requires t c =
    let task = c.args.bounded.now.task.now in
    let run = c.args.run.now in
    let index = c.loop-index.index in
    let from = c.departures-from.result.now in
    let leg = c.index-leg.result.now in
    let legs = from.legs.items in
    let are : AreLegsOf task run.head legs = c.is_ready.ensures.ready.each run.head from c.departures-from.ensures c.requires.may.at_stop.1 in
    let at : slice_get legs index ≡ Some leg = slice_get_read legs (length legs) index leg refl (omega arith)
    c.index-leg.ensures in
    let fits = leg_fits task c.is_ready.ensures.fit run.head legs are c.requires.may.at_stop.1 leg
    (among_place legs index leg at) in (
      omega arith,
      (c.requires.may.next, (fits.0, (fits.1, (c.requires.may.begun, omega arith)))),
    )

pub begin_runs-loop-place-init : goal.begin_runs-loop-place-init
begin_runs-loop-place-init t c = home_first c.args.bounded.now.task.now c.args.assigned.now c.args.bounded.now.task.now.homes.items
    c.none-before.result c.args.best.now c.none-before.ensures c.is_ready.ensures.ready.homes

next_home :
    (task : Task) (assigned : Assigned) (place home : ℕ) (before : List Bool) (old new : Found)
    → place < length task.homes.items → home ≡ get_or task.homes.items place 0 →
    TriesHomes task assigned (drop place task.homes.items) before old new
    → TriesHomes task assigned (home ∷ drop (place + 1) task.homes.items) before old new
next_home task assigned place home before old new low is tries =
    subst (λ (homes : List ℕ). TriesHomes task assigned homes before old new)
    (drop_more task.homes.items place 0 low ∙ ap (λ (h : ℕ). h ∷ drop (place + 1) task.homes.items) (sym is)) tries

pub begin_runs-begin_at-requires : goal.begin_runs-begin_at-requires
begin_runs-begin_at-requires t c =
    let task = c.args.bounded.now.task.now in
    let stop = c.home-stop.result in
    let next = next_home task c.args.assigned.now c.loop-place.place stop _ _ _ (omega arith) c.home-stop.ensures
    c.loop-place.invariant in
    let there : node_at task stop ≡ Some c.node-node.result.now =
    c.node-node.ensures.node in (
      omega arith,
      (
        c.requires.next,
        (
          c.requires.room,
          (
            (next.rest.1, ap stop_in there ∙ c.if-node.true),
            (next.rest.2, home_before task c.args.assigned.now stop _ _ _ _ next),
          ),
        ),
      ),
    )

pub begin_runs-mark_own-requires : goal.begin_runs-mark_own-requires
begin_runs-mark_own-requires t c =
    let task = c.args.bounded.now.task.now in
    let stop = c.home-stop.result in
    let next = next_home task c.args.assigned.now c.loop-place.place stop _ _ _ (omega arith) c.home-stop.ensures
    c.loop-place.invariant in
    home_before task c.args.assigned.now stop _ _ _ _ next

pub begin_runs-loop-place-preserved : goal.begin_runs-loop-place-preserved
begin_runs-loop-place-preserved t c =
    let task = c.args.bounded.now.task.now in
    let assigned = c.args.assigned.now in
    let stop = c.home-stop.result in
    let before = c.loop-place.before in
    let next = next_home task assigned c.loop-place.place stop before c.args.best.now c.loop-place.best (omega arith)
    c.home-stop.ensures c.loop-place.invariant in
    let there : node_at task stop ≡ Some c.node-node.result.now =
    c.node-node.ensures.node in
    let homes = drop (c.loop-place.place + 1) task.homes.items in
    elim c.if-node.branch [
      | begin_runs-then-node w ↦
          subst (λ (b : Found). TriesHomes task assigned homes c.mark_own.new.marks c.args.best.now b) (sym w.best-is)
          (home_more task assigned stop homes before c.mark_own.new.marks c.args.best.now c.loop-place.best _ next
          w.begin_at.ensures c.mark_own.ensures)
      | begin_runs-else-node w ↦
          subst (λ (b : Found). TriesHomes task assigned homes c.mark_own.new.marks c.args.best.now b) (sym w.best-is)
          (home_more task assigned stop homes before c.mark_own.new.marks c.args.best.now c.loop-place.best _ next
          (begin_none task assigned stop _ (inl (ap stop_in there ∙ w.if-node.false))) c.mark_own.ensures)
    ]

pub begin_runs-returns : goal.begin_runs-returns
begin_runs-returns t c =
    home_last c.args.bounded.now.task.now c.args.assigned.now c.loop-place.before c.args.best.now c.loop-place.best
    (omega (arith, c.is_ready.ensures.fit.all))
    (subst (λ (homes : List ℕ). TriesHomes c.args.bounded.now.task.now c.args.assigned.now homes c.loop-place.before
    c.args.best.now c.loop-place.best)
    (drop_all c.loop-place.place c.args.bounded.now.task.now.homes.items (omega arith)) c.loop-place.invariant)

pub turn_back-take-requires : goal.turn_back-take-requires
turn_back-take-requires t c =
    let task = c.args.bounded.now.task.now in
    let run = c.args.run.now in
    let index = c.loop-index.index in
    let from = c.departures-from.result.now in
    let leg = c.index-leg.result.now in
    let legs = from.legs.items in
    let are : AreLegsOf task run.home legs = c.is_ready.ensures.ready.each run.home from c.departures-from.ensures c.requires.may.begun.1 in
    let at : slice_get legs index ≡ Some leg = slice_get_read legs (length legs) index leg refl (omega arith)
    c.index-leg.ensures in
    let fits = leg_fits task c.is_ready.ensures.fit run.home legs are c.requires.may.begun.1 leg (among_place legs index leg at) in
    let one = one_of (stop_in (node_at task run.head)) c.requires.may.at_stop.1 in
    let home = one_of (stop_in (node_at task run.home)) c.requires.may.begun.1 in
    rw c.turned_back-back.ensures (
      omega arith,
      (c.requires.may.next, (fits.0, (fits.1, (c.requires.may.begun, omega arith)))),
    )

pub turn_back-loop-index-init : goal.turn_back-loop-index-init
turn_back-loop-index-init t c =
    let run = c.args.run.now in
    let from = c.departures-from.result.now in
    let are : AreLegsOf c.args.bounded.now.task.now run.home from.legs.items =
    c.is_ready.ensures.ready.each run.home from c.departures-from.ensures c.requires.may.begun.1 in
    legs_none c.args.bounded.now.task.now c.is_ready.ensures.fit run.home c.requires.may.begun.1 from.legs.items are
    (partial c.args.assigned.now run) c.args.assigned.now (λ leg. turned_back run) (IsLater run) c.args.best.now

pub turn_back-loop-index-preserved : goal.turn_back-loop-index-preserved
turn_back-loop-index-preserved t c =
    let task = c.args.bounded.now.task.now in
    let assigned = c.args.assigned.now in
    let run = c.args.run.now in
    let node = c.node.result.now in
    let index = c.loop-index.index in
    let from = c.departures-from.result.now in
    let leg = c.index-leg.result.now in
    let legs = from.legs.items in
    let there : node_at task run.home ≡ Some node =
    c.node.ensures.node in
    let are : AreLegsOf task run.home legs = c.is_ready.ensures.ready.each run.home from c.departures-from.ensures c.requires.may.begun.1 in
    let at : slice_get legs index ≡ Some leg = slice_get_read legs (length legs) index leg refl (omega arith)
    c.index-leg.ensures in
    let Tried : Found → Type 0 = λ b. TriesLegs task (partial assigned run) assigned (λ w. turned_back run)
    (λ w. IsListed legs (index + 1) w × IsLater run w) c.args.best.now b in
    elim c.if-run-leg.branch [
      | turn_back-then-run-leg w ↦
          subst Tried (sym w.best-is)
          (legs_more task c.is_ready.ensures.fit run.home c.requires.may.begun.1 legs are (partial assigned run) assigned
          (λ v. turned_back run) (IsLater run) index leg _ _ _ at c.loop-index.invariant
          (takes_from task (partial assigned run) assigned (turned_back run) leg (Turn ∷ go_along leg.steps.items)
          c.loop-index.best w.take.new.best w.trace.new.self
          (leads_turn task c.is_ready.ensures.fit assigned c.marks_all_borders.ensures run c.requires.may.begun.1 c.if-run.false
          c.requires.may.at_stop.1 (ap ends_in there ∙ c.if-node.false) legs are index leg at (omega arith))
          (subst (λ (r : PartialRun). Takes task assigned r leg.segment c.loop-index.best w.take.new.best)
          c.turned_back-back.ensures w.take.ensures)
          (traces_both c.loop-index.best.amount (go_along leg.steps.items) (Turn ∷ []) w.take.new.best
          w.trace_steps.new.self w.trace.new.self
          w.trace_steps.ensures
          w.trace.ensures)))
      | turn_back-else-run-leg w ↦
          subst Tried (sym w.best-is)
          (legs_skip task c.is_ready.ensures.fit run.home c.requires.may.begun.1 legs are (partial assigned run) assigned
          (λ v. turned_back run) (IsLater run) index leg _ _ at
          (λ later. omega (arith, w.if-run-leg.false, later)) c.loop-index.invariant)
    ]

pub turn_back-returns-then-ways : goal.turn_back-returns-then-ways
turn_back-returns-then-ways t c =
    let task = c.args.bounded.now.task.now in
    let run = c.args.run.now in
    let there : node_at task run.home ≡ Some c.node.result.now =
    c.node.ensures.node in
    turns_tried task c.is_ready.ensures.fit c.is_ready.ensures.ready c.args.assigned.now run c.args.best.now
    c.requires.may.begun c.marks_all_borders.ensures c.if-run.false
    (ap ends_in there ∙ c.if-node.false) (c.requires.ways.turn c.if-ways.true)

pub turn_back-returns : goal.turn_back-returns
turn_back-returns t c =
    let task = c.args.bounded.now.task.now in
    let run = c.args.run.now in
    let from = c.departures-from.result.now in
    let are : AreLegsOf task run.home from.legs.items =
    c.is_ready.ensures.ready.each run.home from c.departures-from.ensures c.requires.may.begun.1 in
    turn_by_legs task c.is_ready.ensures.fit c.args.assigned.now c.marks_all_borders.ensures run c.requires.may.begun.1
    from.legs.items are c.loop-index.index _ _ (omega arith) c.loop-index.invariant
