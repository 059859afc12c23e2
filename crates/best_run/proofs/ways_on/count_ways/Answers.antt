-- Each leg leads to a stop.
use Rattle.std.proofs.Common.{◌≡◌, Some, length, slice_get, refl, arith}
use Rattle.std.proofs.lemmas.Option.{slice_get_read}
use Rattle.search_task.specs.Legs.{AreLegsOf}
use Rattle.best_run.proofs.Along.{leg_fits}
use Rattle.search_task.proofs.Described.{among_place}
use Rattle.best_run.proofs.ways_on.count_ways.Goals as goal

pub can_take-requires : goal.can_take-requires
can_take-requires c =
    let task = c.args.task.now in
    let from = c.departures-from.result.now in
    let leg = c.index-leg.result.now in
    let legs = from.legs.items in
    let are : AreLegsOf task c.args.stop legs = c.is_ready.ensures.ready.each c.args.stop from c.departures-from.ensures c.requires.stop.1 in
    let at : slice_get legs c.loop-index.index ≡ Some leg =
    slice_get_read legs (length legs) c.loop-index.index leg refl (omega arith) c.index-leg.ensures in
    (leg_fits task c.is_ready.ensures.fit c.args.stop legs are c.requires.stop.1 leg
    (among_place legs c.loop-index.index leg at)).1
