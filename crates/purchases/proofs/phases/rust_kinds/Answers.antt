use Rattle.purchases.proofs.Folding.{fold_goes_on}
use Rattle.purchases.specs.Phases.{with_kind_rusted_at}
use Rattle.purchases.proofs.phases.rust_kinds.Goals as goal
use Rattle.tables.specs.Train.{kinds}

pub loop-kind-preserved : goal.loop-kind-preserved
loop-kind-preserved c =
    record {
      so_far = fold_goes_on (with_kind_rusted_at c.args.new) c.args.history.now c.loop-kind.history
          c.rust_kind_at.new.history kinds c.loop-kind.kind-index _ c.loop-kind-test.true c.loop-kind.invariant.so_far
          c.in_ok-rust_kind_at.ensures.after;
      sound = c.in_ok-rust_kind_at.ensures.sound;
    }
