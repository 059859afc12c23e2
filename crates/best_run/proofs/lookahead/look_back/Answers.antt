-- Each leg by which the run may turn back adds what it leads to.
use Rattle.std.proofs.Common.{◌≡◌, ◌+◌, Some, List, length, get_or, slice_get, refl, sym, ap, subst, ◌∙◌, arith}
use Rattle.std.proofs.lemmas.Option.{slice_get_read}
use Rattle.best_run.specs.declared.lookahead.Outlook.{Outlook}
use Rattle.search_task.specs.declared.task.Leg.{Leg}
use Rattle.best_run.specs.Ahead.{WidensBackBelow}
use Rattle.best_run.specs.EndStops.{HasWorth}
use Rattle.search_task.specs.Spots.{ends_in}
use Rattle.search_task.specs.Legs.{AreLegsOf, legs_at, legs_in}
use Rattle.best_run.proofs.Ahead.{back_all, back_end, back_more, back_none, back_skip}
use Rattle.best_run.proofs.Along.{leg_fits}
use Rattle.search_task.proofs.Described.{among_place}
use Rattle.best_run.proofs.lookahead.look_back.Goals as goal
use Rattle.best_run.proofs.lookahead.look_back.Goals.{then-run-leg, else-run-leg}

pub loop-index-init : goal.loop-index-init
loop-index-init c = (
  back_none c.args.task.now c.args.assigned.now c.args.run.now c.args.outlook.now.ahead,
  c.requires.known,
)

pub look_along-requires-clause-stop : goal.look_along-requires-clause-stop
look_along-requires-clause-stop c =
    let task = c.args.task.now in
    let home = c.args.run.now.home in
    let from = c.departures-from.result.now in
    let legs = from.legs.items in
    let leg = c.index-legs-index.result in
    let whole = c.as_slice-legs.ensures.value in
    let read = c.index-legs-index.is ∙ ap (λ (ws : List Leg). get_or ws c.loop-index.index leg) whole in
    let are : AreLegsOf task home legs = c.is_ready.ensures.ready.each home from c.departures-from.ensures c.requires.begun in
    let at : slice_get legs c.loop-index.index ≡ Some leg =
    slice_get_read legs (length legs) c.loop-index.index leg refl (omega (arith, ap (λ (ws : List Leg). length ws) whole)) read in
    let fits = leg_fits task c.is_ready.ensures.fit home legs are c.requires.begun leg
    (among_place legs c.loop-index.index leg at) in
    fits.1

pub loop-index-preserved : goal.loop-index-preserved
loop-index-preserved c =
    let task = c.args.task.now in
    let assigned = c.args.assigned.now in
    let run = c.args.run.now in
    let from = c.departures-from.result.now in
    let legs = from.legs.items in
    let leg = c.index-legs-index.result in
    let whole = c.as_slice-legs.ensures.value in
    let read = c.index-legs-index.is ∙ ap (λ (ws : List Leg). get_or ws c.loop-index.index leg) whole in
    let index = c.loop-index.index in
    let at : slice_get legs index ≡ Some leg = slice_get_read legs (length legs) index leg refl
    (omega (arith, ap (λ (ws : List Leg). length ws) whole)) read in
    let there : legs_at task run.home ≡ legs = ap legs_in
    (c.departures-from.ensures) in
    let here = ap (λ ws. slice_get ws index) there ∙ at in
    let Looked : Outlook → Type 0 = λ o. WidensBackBelow task assigned run (index + 1) c.args.outlook.now.ahead o.ahead
    × HasWorth task assigned run o.ahead o.worth in
    elim c.if-run-leg.branch [
      | then-run-leg w ↦
          subst Looked (sym w.outlook-is) (
            back_more task assigned run index leg _ _ _ here c.loop-index.invariant.0
                w.look_along.ensures.widens,
            w.look_along.ensures.known,
          )
      | else-run-leg w ↦
          subst Looked (sym w.outlook-is) (
            back_skip task assigned run index leg _ _ here
                (λ later. omega (arith, w.if-run-leg.false, later)) c.loop-index.invariant.0,
            c.loop-index.invariant.1,
          )
    ]

pub returns-clause-widens : goal.returns-clause-widens
returns-clause-widens c =
    let task = c.args.task.now in
    let run = c.args.run.now in
    let from = c.departures-from.result.now in
    back_all task c.args.assigned.now run from.legs.items c.loop-index.index _ _
    (ap legs_in (c.departures-from.ensures))
    (omega (arith, ap (λ (ws : List Leg). length ws) c.as_slice-legs.ensures.value)) c.loop-index.invariant.0

pub returns-then-node-clause-widens : goal.returns-then-node-clause-widens
returns-then-node-clause-widens c =
    let run = c.args.run.now in
    let there = c.node.ensures.node in
    back_end c.args.task.now c.args.assigned.now run _ (ap ends_in there ∙ c.if-node.true)
