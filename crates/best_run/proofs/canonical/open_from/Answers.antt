-- Each leg that crosses no used border is opened.
use Rattle.std.proofs.Common.{◌≡◌, ◌+◌, Bool, List, Some, length, slice_get, refl, sym, ap, subst, ◌∙◌, arith}
use Rattle.std.proofs.lemmas.Option.{slice_get_read}
use Rattle.best_run.specs.Canonical.{AreOpenBelow, Opens}
use Rattle.search_task.specs.Crossed.{cleared_all}
use Rattle.search_task.specs.Crossed.{misses}
use Rattle.search_task.specs.Legs.{legs_at, legs_in}
use Rattle.best_run.proofs.Likened.{open_all, open_more, open_same}
use Rattle.best_run.proofs.canonical.open_from.Goals as goal
use Rattle.best_run.proofs.canonical.open_from.Goals.{then-misses, else-misses}

pub loop-index-preserved : goal.loop-index-preserved
loop-index-preserved c =
    let task = c.args.task.now in
    let from = c.departures-from.result.now in
    let legs = from.legs.items in
    let leg = c.index-leg.result.now in
    let at : slice_get legs c.loop-index.index ≡ Some leg =
    slice_get_read legs (length legs) c.loop-index.index leg refl (omega arith) c.index-leg.ensures in
    let there : legs_at task c.args.stop ≡ legs = ap legs_in
    (c.departures-from.ensures) in
    let here : slice_get (legs_at task c.args.stop) c.loop-index.index ≡ Some leg =
    ap (λ ws. slice_get ws c.loop-index.index) there ∙ at in
    let used = c.args.assigned.now.used in
    let borders = leg.segment.borders.items in
    let tested : c.misses.result ≡ misses used borders = c.misses.ensures in
    let Open : List Bool → Type 0 = λ s. Opens used c.args.shut.now s
    × AreOpenBelow task used c.args.stop (c.loop-index.index + 1) s in
    elim c.if-misses.branch [
      | then-misses w ↦
          let cleared : c.if-misses.shut ≡ cleared_all c.loop-index.shut borders = w.shut-is ∙ w.clear_in.ensures in
          subst Open (sym cleared) (open_more task used c.args.stop c.loop-index.index leg c.args.shut.now
          c.loop-index.shut here (sym tested ∙ w.if-misses.true) c.loop-index.invariant)
      | else-misses w ↦
          subst Open (sym w.shut-is) (
            c.loop-index.invariant.0,
            open_same task used c.args.stop c.loop-index.index leg c.loop-index.shut here
                (sym tested ∙ w.if-misses.false) c.loop-index.invariant.1,
          )
    ]

pub returns-clause-open : goal.returns-clause-open
returns-clause-open c =
    let task = c.args.task.now in
    let from = c.departures-from.result.now in
    let there : legs_at task c.args.stop ≡ from.legs.items =
    ap legs_in (c.departures-from.ensures) in
    open_all task c.args.assigned.now.used c.args.stop from.legs.items c.loop-index.index c.loop-index.shut there
    (omega arith) c.loop-index.invariant.1
