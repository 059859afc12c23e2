-- The loop goes on while a train may visit this many stops.
use Rattle.std.proofs.Common.{◌≡◌, ◌+◌, ◌<◌, length, get_or, inl, inr, sym, ap, ◌∙◌, arith}
use Rattle.std.proofs.lemmas.Bool.{cases_eq}
use Rattle.best_run.proofs.search.equals.Goals as goal

pub loop-count-init : goal.loop-count-init
loop-count-init c = ((λ train low. absurd (omega (arith, low))), omega arith)

pub loop-count-preserved : goal.loop-count-preserved
loop-count-preserved c =
    let trains = c.args.task.now.trains.items in
    let count = c.loop-count.count in
    let low : c.args.next + count < length trains = omega arith in
    let here : get_or trains (c.args.next + count) 0 ≡ c.args.most =
    sym c.most_stops.ensures ∙ c.if-most_stops-most.false
    in (
      (λ train below. elim (cases_eq train count) [
        | inl same ↦ ap (λ n. get_or trains (c.args.next + n) 0) same ∙ here
        | inr other ↦ c.loop-count.invariant.0 train (omega (arith, below, other))
      ]),
      omega arith,
    )
