-- Each leg adds what it leads to.
use Rattle.std.proofs.Common.{◌≡◌, Some, length, slice_get, refl, ap, subst, ◌∙◌, arith}
use Rattle.std.proofs.lemmas.Option.{slice_get_read}
use Rattle.best_run.specs.declared.state.PartialRun.{PartialRun}
use Rattle.best_run.specs.Ahead.{WidensBy}
use Rattle.best_run.specs.Canonical.{anywhere}
use Rattle.search_task.specs.Legs.{AreLegsOf, legs_at, legs_in}
use Rattle.best_run.proofs.Ahead.{below_more}
use Rattle.best_run.proofs.Likened.{widens_all}
use Rattle.best_run.proofs.Along.{leg_fits}
use Rattle.search_task.proofs.Described.{among_place}
use Rattle.best_run.proofs.Lasting.{has_plain, plain_has}
use Rattle.best_run.proofs.canonical.reach_from.Goals as goal

pub look_along-requires-clause-stop : goal.look_along-requires-clause-stop
look_along-requires-clause-stop c =
    let task = c.args.task.now in
    let from = c.departures-from.result.now in
    let legs = from.legs.items in
    let leg = c.index-leg.result.now in
    let are : AreLegsOf task c.args.stop legs = c.is_ready.ensures.ready.each c.args.stop from c.departures-from.ensures c.requires.stops in
    let at : slice_get legs c.loop-index.index ≡ Some leg =
    slice_get_read legs (length legs) c.loop-index.index leg refl (omega arith) c.index-leg.ensures in
    let fits = leg_fits task c.is_ready.ensures.fit c.args.stop legs are c.requires.stops leg
    (among_place legs c.loop-index.index leg at) in
    fits.1

pub look_along-requires-clause-known : goal.look_along-requires-clause-known
look_along-requires-clause-known c =
    has_plain c.args.task.now c.args.assigned.now c.anywhere-run.result c.loop-index.reach.ahead
    c.loop-index.reach.worth c.loop-index.invariant.1

pub loop-index-preserved : goal.loop-index-preserved
loop-index-preserved c =
    let task = c.args.task.now in
    let from = c.departures-from.result.now in
    let legs = from.legs.items in
    let leg = c.index-leg.result.now in
    let at : slice_get legs c.loop-index.index ≡ Some leg =
    slice_get_read legs (length legs) c.loop-index.index leg refl (omega arith) c.index-leg.ensures in
    let there : legs_at task c.args.stop ≡ legs = ap legs_in
    (c.departures-from.ensures) in
    let here : slice_get (legs_at task c.args.stop) c.loop-index.index ≡ Some leg =
    ap (λ ws. slice_get ws c.loop-index.index) there ∙ at in
    let by : WidensBy task c.args.assigned.now anywhere leg.segment c.loop-index.reach.ahead
    c.look_along.new.outlook.ahead = subst (λ (r : PartialRun). WidensBy task c.args.assigned.now r leg.segment
    c.loop-index.reach.ahead c.look_along.new.outlook.ahead) c.anywhere-run.ensures c.look_along.ensures.widens in (
      below_more task c.args.assigned.now anywhere c.args.stop c.loop-index.index leg _ _ _ here
          c.loop-index.invariant.0 by,
      plain_has task c.args.assigned.now c.anywhere-run.result
          c.look_along.new.outlook.ahead c.look_along.new.outlook.worth
          (ap (λ (r : PartialRun). r.most) c.anywhere-run.ensures) c.look_along.ensures.known,
    )

pub returns-clause-reaches : goal.returns-clause-reaches
returns-clause-reaches c =
    let task = c.args.task.now in
    let from = c.departures-from.result.now in
    let there : legs_at task c.args.stop ≡ from.legs.items =
    ap legs_in (c.departures-from.ensures) in
    widens_all task c.args.assigned.now c.args.stop from.legs.items c.loop-index.index _ _ there (omega arith)
    c.loop-index.invariant.0
