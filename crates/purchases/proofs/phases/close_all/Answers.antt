use Rattle.purchases.proofs.Folding.{fold_goes_on}
use Rattle.purchases.specs.Phases.{with_closed}
use Rattle.purchases.proofs.phases.close_all.Goals as goal
use Rattle.tables.specs.Roster.{privates}

pub loop-private-preserved : goal.loop-private-preserved
loop-private-preserved c =
    record {
      so_far = fold_goes_on with_closed c.args.history.now c.loop-private.history c.close.new.history privates
          c.loop-private.private-index _ c.loop-private-test.true c.loop-private.invariant.so_far
          c.in_ok-close.ensures.after;
      sound = c.in_ok-close.ensures.sound;
    }
