-- The legs from each listed stop from which a run may set out are opened.
use Rattle.std.proofs.Common.{◌≡◌, ◌+◌, Bool, Some, List, slice_get, sym, subst, ◌∙◌, arith}
use Rattle.best_run.specs.Canonical.{IsShutBelow}
use Rattle.search_task.specs.Legs.{IsStop}
use Rattle.best_run.proofs.Likened.{shut_all, shut_more, shut_none, shut_same}
use Rattle.best_run.proofs.canonical.shut.Goals as goal
use Rattle.best_run.proofs.canonical.shut.Goals.{then-sets_out, else-sets_out}

pub loop-place-init : goal.loop-place-init
loop-place-init c =
    rw c.all-shut.ensures (shut_none c.args.task.now c.args.assigned.now.used c.args.reach.now
    c.marks_all_borders.ensures)

pub open_from-requires : goal.open_from-requires
open_from-requires c =
    c.stop-stop.ensures.is.1

pub loop-place-preserved : goal.loop-place-preserved
loop-place-preserved c =
    let task = c.args.task.now in
    let used = c.args.assigned.now.used in
    let reach = c.args.reach.now in
    let place = c.loop-place.place in
    let stop = c.stop-stop.result in
    let at : slice_get task.stops.items place ≡ Some stop = c.stop-stop.ensures.at in
    let is : IsStop task stop = c.stop-stop.ensures.is in
    let Shut : List Bool → Type 0 = λ s. IsShutBelow task used reach (place + 1) s in
    elim c.if-sets_out.branch [
      | then-sets_out w ↦
          subst Shut (sym w.shut-is) (shut_more task used reach place stop c.loop-place.shut _ at
          c.loop-place.invariant w.open_from.ensures.opens w.open_from.ensures.open)
      | else-sets_out w ↦
          subst Shut (sym w.shut-is) (shut_same task used reach place stop c.loop-place.shut is at
          (sym c.sets_out.ensures ∙ w.if-sets_out.false) c.loop-place.invariant)
    ]

pub returns : goal.returns
returns c =
    shut_all c.args.task.now c.is_ready.ensures.ready c.args.assigned.now.used c.args.reach.now c.loop-place.place
    c.loop-place.shut (omega arith) c.loop-place.invariant
