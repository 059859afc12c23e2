use Rattle.purchases.proofs.Folding.{fold_goes_on}
use Rattle.purchases.specs.Phases.{with_limit_kept}
use Rattle.purchases.proofs.phases.keep_limits.Goals as goal
use Rattle.tables.specs.Roster.{companies}

pub loop-company-preserved : goal.loop-company-preserved
loop-company-preserved c =
    record {
      so_far = fold_goes_on with_limit_kept c.args.history.now c.loop-company.history c.keep_limit.new.history
          companies c.loop-company.company-index _ c.loop-company-test.true c.loop-company.invariant.so_far
          c.in_ok-keep_limit.ensures.after;
      sound = c.in_ok-keep_limit.ensures.sound;
    }
