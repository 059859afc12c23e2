-- Each leg adds what it leads to, and together they are all legs of the stop.
use Rattle.std.proofs.Common.{◌≡◌, ℕ, ◌+◌, ◌<◌, Bool, true, false, Some, List, length, get_or, set, slice_get, refl, sym, ap, subst, ◌∙◌}
use Rattle.std.proofs.Common.{arith}
use Rattle.std.proofs.lemmas.Option.{slice_get_read}
use Rattle.best_run.specs.declared.lookahead.Outlook.{Outlook}
use Rattle.legal_runs.proofs.Earning.{mark_used}
use Rattle.legal_runs.specs.Law.{unused}
use Rattle.search_task.specs.declared.task.Leg.{Leg}
use Rattle.best_run.specs.Ahead.{WidensAt, WidensBelow, WidensFrom}
use Rattle.best_run.specs.EndStops.{CountsAsPassed, HasWorth}
use Rattle.search_task.specs.Spots.{ends_in, node_at, stop_in}
use Rattle.search_task.specs.Legs.{AreLegsOf, legs_at, legs_in}
use Rattle.best_run.proofs.Ahead.{along_not, along_at, below_more, below_none, from_all, from_end, leads_free, at_from}
use Rattle.best_run.proofs.Along.{leg_fits}
use Rattle.search_task.proofs.Described.{among_place}
use Rattle.best_run.proofs.lookahead.+look.Goals as goal
use Rattle.best_run.proofs.lookahead.+look.Goals.{look_from-then-leads_on, look_from-else-leads_on}
use Rattle.search_task.proofs.Booleans.{not_both}

pub look_at-look_from-requires : goal.look_at-look_from-requires
look_at-look_from-requires t c =
    let ahead = c.args.outlook.now.ahead in
    let low : c.args.spot < length ahead = omega (arith, c.is_whole.ensures, c.node.ensures.low) in
    let fewer = mark_used ahead c.args.spot low c.requires.free in
    let less = ap unused c.count.ensures.marked in (
      omega (arith, less),
      (c.requires.stop, c.count.ensures.known),
    )

pub look_at-returns-then-node-clause-widens : goal.look_at-returns-then-node-clause-widens
look_at-returns-then-node-clause-widens t c =
    let task = c.args.task.now in
    let assigned = c.args.assigned.now in
    let run = c.args.run.now in
    let spot = c.args.spot in
    let ahead = c.args.outlook.now.ahead in
    let node = c.node.ensures.node in
    at_from task assigned run spot ahead _ c.requires.free (omega (arith, c.is_whole.ensures, c.node.ensures.low))
    (subst (λ (ms : List Bool). WidensFrom task assigned run spot ms c.count.new.outlook.ahead) c.count.ensures.marked
    (from_end task assigned run spot c.count.new.outlook.ahead (ap ends_in node ∙ c.if-node.true)))

pub look_at-end_at-requires-clause-passed : goal.look_at-end_at-requires-clause-passed
look_at-end_at-requires-clause-passed t c =
    let task = c.args.task.now in
    let node = c.node.ensures.node in
    subst (λ (o : Outlook). CountsAsPassed task c.args.assigned.now c.args.run.now c.args.spot o.ahead o.worth)
    (sym (c.look_from.ensures.same c.if-not-look_from.true))
    (c.count.ensures.passed (ap ends_in node ∙ c.if-node.false))

pub look_at-returns-then-not-look_from-clause-widens : goal.look_at-returns-then-not-look_from-clause-widens
look_at-returns-then-not-look_from-clause-widens t c =
    let task = c.args.task.now in
    let assigned = c.args.assigned.now in
    let run = c.args.run.now in
    let spot = c.args.spot in
    at_from task assigned run spot c.args.outlook.now.ahead _ c.requires.free
    (omega (arith, c.is_whole.ensures, c.node.ensures.low))
    (subst (λ (ms : List Bool). WidensFrom task assigned run spot (set c.args.outlook.now.ahead spot true) ms)
    (sym c.end_at.ensures.same)
    (subst (λ (ms : List Bool). WidensFrom task assigned run spot ms c.look_from.new.outlook.ahead)
    c.count.ensures.marked c.look_from.ensures.widens))

pub look_at-returns-else-not-look_from-clause-widens : goal.look_at-returns-else-not-look_from-clause-widens
look_at-returns-else-not-look_from-clause-widens t c =
    let task = c.args.task.now in
    let assigned = c.args.assigned.now in
    let run = c.args.run.now in
    let spot = c.args.spot in
    at_from task assigned run spot c.args.outlook.now.ahead _ c.requires.free
    (omega (arith, c.is_whole.ensures, c.node.ensures.low))
    (subst (λ (ms : List Bool). WidensFrom task assigned run spot ms c.look_from.new.outlook.ahead)
    c.count.ensures.marked c.look_from.ensures.widens)

pub look_from-loop-index-init : goal.look_from-loop-index-init
look_from-loop-index-init t c = (
  below_none c.args.task.now c.args.assigned.now c.args.run.now c.args.spot c.args.outlook.now.ahead,
  (c.requires.known, λ none. refl),
)

pub look_from-leads_on-requires : goal.look_from-leads_on-requires
look_from-leads_on-requires t c =
    let task = c.args.task.now in
    let from = c.departures-from.result.now in
    let legs = from.legs.items in
    let leg = c.index-legs-index.result in
    let whole = c.as_slice-legs.ensures.value in
    let read = c.index-legs-index.is ∙ ap (λ (ws : List Leg). get_or ws c.loop-index.index leg) whole in
    let are : AreLegsOf task c.args.spot legs = c.is_ready.ensures.ready.each c.args.spot from c.departures-from.ensures c.requires.stop in
    let at : slice_get legs c.loop-index.index ≡ Some leg =
    slice_get_read legs (length legs) c.loop-index.index leg refl (omega (arith, ap (λ (ws : List Leg). length ws) whole)) read in
    let fits = leg_fits task c.is_ready.ensures.fit c.args.spot legs are c.requires.stop leg
    (among_place legs c.loop-index.index leg at) in
    fits.1

pub look_from-look_at-requires : goal.look_from-look_at-requires
look_from-look_at-requires t c =
    let task = c.args.task.now in
    let from = c.departures-from.result.now in
    let legs = from.legs.items in
    let leg = c.index-legs-index.result in
    let whole = c.as_slice-legs.ensures.value in
    let read = c.index-legs-index.is ∙ ap (λ (ws : List Leg). get_or ws c.loop-index.index leg) whole in
    let are : AreLegsOf task c.args.spot legs = c.is_ready.ensures.ready.each c.args.spot from c.departures-from.ensures c.requires.stop in
    let at : slice_get legs c.loop-index.index ≡ Some leg =
    slice_get_read legs (length legs) c.loop-index.index leg refl (omega (arith, ap (λ (ws : List Leg). length ws) whole)) read in
    let fits = leg_fits task c.is_ready.ensures.fit c.args.spot legs are c.requires.stop leg
    (among_place legs c.loop-index.index leg at) in
    let fewer = c.loop-index.invariant.0.widens.fewer in
    let ahead = c.loop-index.outlook.ahead in
    let same : leg.segment.to ≡ c.number.result = sym c.number.ensures in
    let free : get_or ahead leg.segment.to false ≡ false =
    leads_free _ _ (sym c.leads_on.ensures ∙ c.if-leads_on.true) in (
      omega arith,
      (
        subst (λ (to : ℕ). stop_in (node_at task to) ≡ true) same fits.1,
        (subst (λ (to : ℕ). get_or ahead to false ≡ false) same free, c.loop-index.invariant.1.0),
      ),
    )

pub look_from-loop-index-preserved : goal.look_from-loop-index-preserved
look_from-loop-index-preserved t c =
    let task = c.args.task.now in
    let assigned = c.args.assigned.now in
    let run = c.args.run.now in
    let from = c.departures-from.result.now in
    let legs = from.legs.items in
    let leg = c.index-legs-index.result in
    let whole = c.as_slice-legs.ensures.value in
    let read = c.index-legs-index.is ∙ ap (λ (ws : List Leg). get_or ws c.loop-index.index leg) whole in
    let index = c.loop-index.index in
    let at : slice_get legs index ≡ Some leg = slice_get_read legs (length legs) index leg refl
    (omega (arith, ap (λ (ws : List Leg). length ws) whole)) read in
    let there : legs_at task c.args.spot ≡ legs = ap legs_in
    (c.departures-from.ensures) in
    let here = ap (λ ws. slice_get ws index) there ∙ at in
    let Looked : Outlook → Type 0 = λ o. WidensBelow task assigned run c.args.spot (index + 1) c.args.outlook.now.ahead
    o.ahead × HasWorth task assigned run o.ahead o.worth in
    elim c.if-leads_on.branch [
      | look_from-then-leads_on w ↦
          let both = subst Looked (sym w.outlook-is) (
            below_more task assigned run c.args.spot index leg _ _ _ here c.loop-index.invariant.0
                (along_at task assigned run leg.segment _ _
                (subst (λ (to : ℕ). WidensAt task assigned run to c.loop-index.outlook.ahead w.look_at.new.outlook.ahead)
                w.number.ensures w.look_at.ensures.widens)),
            w.look_at.ensures.known,
          ) in (both.0, (both.1, λ none. absurd (not_both _ w.leads-is none)))
      | look_from-else-leads_on w ↦
          let both = subst Looked (sym w.outlook-is) (
            below_more task assigned run c.args.spot index leg _ _ _ here c.loop-index.invariant.0
                (along_not task assigned run leg.segment c.loop-index.outlook.ahead
                (sym c.leads_on.ensures ∙ w.if-leads_on.false)),
            c.loop-index.invariant.1.0,
          ) in (both.0, (both.1, λ none. w.outlook-is ∙ c.loop-index.invariant.1.1 (sym w.leads-is ∙ none)))
    ]

pub look_from-returns-clause-widens : goal.look_from-returns-clause-widens
look_from-returns-clause-widens t c =
    let task = c.args.task.now in
    let from = c.departures-from.result.now in
    from_all task c.args.assigned.now c.args.run.now c.args.spot from.legs.items c.loop-index.index _ _
    (ap legs_in (c.departures-from.ensures))
    (omega (arith, ap (λ (ws : List Leg). length ws) c.as_slice-legs.ensures.value)) c.loop-index.invariant.0
