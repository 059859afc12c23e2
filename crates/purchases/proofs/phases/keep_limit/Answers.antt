use Rattle.purchases.proofs.Folding.{iterate_goes_on}
use Rattle.purchases.specs.Discard.{with_next_discarded}
use Rattle.purchases.proofs.phases.keep_limit.Goals as goal

pub loop-preserved : goal.loop-preserved
loop-preserved c =
    record {
      so_far = iterate_goes_on (with_next_discarded c.args.company) c.args.history.now c.loop.history
          c.discard.new.history c.loop.counter c.loop.invariant.so_far c.in_ok-discard.ensures.after;
      sound = c.in_ok-discard.ensures.sound;
    }
