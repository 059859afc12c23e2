-- The train in hand comes after those before it.
use Rattle.std.proofs.Common.{ap, sym, ◌∙◌}
use Rattle.std.proofs.lemmas.List.{take_all}
use Rattle.search_task.specs.Described.{most_of_all}
use Rattle.search_task.proofs.Laid.{most_more}
use Rattle.search_task.proofs.spots.most_of_all.Goals as goal

pub loop-kind-preserved : goal.loop-kind-preserved
loop-kind-preserved c =
    rw (c.in_ok-push.ensures.items, c.loop-kind.invariant, c.most_of.ensures)
    (sym (most_more c.args.kinds.now c.loop-kind.kind-index _ c.loop-kind-test.true))

pub returns : goal.returns
returns c = c.loop-kind.invariant ∙ ap most_of_all
    (take_all c.loop-kind.kind-index c.args.kinds.now c.loop-kind-test.false)
