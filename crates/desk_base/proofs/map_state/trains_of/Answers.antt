use Rattle.std.proofs.Common.{[], ◌∙◌}
use Rattle.std.proofs.lemmas.Int.{to_z-of_z}
use mir.Syntax.{w64}
use Rattle.operating.proofs.RunBestLemmas.{same_count}
use Rattle.purchases.proofs.Folding.{fold_goes_on}
use Rattle.operating.specs.RunBest.{with_those_held}
use Rattle.desk_base.proofs.map_state.trains_of.Goals as goal
use Rattle.tables.specs.Train.{kinds}

pub loop-kind-preserved : goal.loop-kind-preserved
loop-kind-preserved c =
    let count = to_z-of_z w64 c.trains.result (record { sfits = c.trains.type_inv }) ∙ c.trains.ensures.sum in
    fold_goes_on (with_those_held c.args.view.now.events c.args.company) [] c.loop-kind.trains.items
    c.push_trains.new.trains.items kinds c.loop-kind.kind-index _
    c.loop-kind-test.true c.loop-kind.invariant
    (c.in_ok-push_trains.ensures ∙ same_count c.loop-kind.trains.items _ _ _ count)
