-- Each token adds what is in reach of it.
use Rattle.std.proofs.Common.{◌≡◌, ◌+◌, ◌≤◌, Some, slice_get, sym, ap, subst, ◌∙◌, arith}
use Rattle.best_run.specs.declared.canonical.InReach.{InReach}
use Rattle.best_run.specs.Canonical.{AreCappedBelow}
use Rattle.search_task.specs.Spots.{own_in}
use Rattle.search_task.specs.Legs.{IsStop}
use Rattle.best_run.proofs.Capped.{capped_all, capped_more, capped_none, capped_same, reach_all}
use Rattle.best_run.proofs.canonical.reach.Goals as goal
use Rattle.best_run.proofs.canonical.reach.Goals.{then-node, else-node}

pub loop-place-init : goal.loop-place-init
loop-place-init c = (capped_none c.args.task.now c.args.assigned.now.used _ c.none.ensures, c.left_to.ensures)

pub reach_token-requires-clause-stops : goal.reach_token-requires-clause-stops
reach_token-requires-clause-stops c =
    c.stop-stop.ensures.is.1

pub loop-place-preserved : goal.loop-place-preserved
loop-place-preserved c =
    let task = c.args.task.now in
    let used = c.args.assigned.now.used in
    let place = c.loop-place.place in
    let stop = c.stop-stop.result in
    let at : slice_get task.stops.items place ≡ Some stop = c.stop-stop.ensures.at in
    let is : IsStop task stop = c.stop-stop.ensures.is in
    let there = c.node.ensures.node in
    let Known : InReach → Type 0 = λ r. AreCappedBelow task used (place + 1) r × (r.left ≤ 744) in
    elim c.if-node.branch [
      | then-node w ↦
          let token = w.reach_token.ensures in
          subst Known (sym w.reach-is) (
            capped_more task used place stop _ _ at token c.loop-place.invariant.0,
            (let low = c.loop-place.invariant.1 in omega (arith, token.left, low)),
          )
      | else-node w ↦
          subst Known (sym w.reach-is) (
            capped_same task used place stop c.loop-place.reach at (ap own_in there ∙ w.if-node.false)
                c.loop-place.invariant.0,
            c.loop-place.invariant.1,
          )
    ]

pub returns-clause-reaches : goal.returns-clause-reaches
returns-clause-reaches c =
    reach_all c.args.task.now c.is_ready.ensures.ready c.args.assigned.now.used c.loop-place.place c.loop-place.reach
    (omega arith) c.loop-place.invariant.0

pub returns-clause-capped : goal.returns-clause-capped
returns-clause-capped c =
    capped_all c.args.task.now c.is_ready.ensures.ready c.args.assigned.now.used c.loop-place.place c.loop-place.reach
    (omega arith) c.loop-place.invariant.0
