-- After this many times it is after all of them.
use Rattle.std.proofs.Common.{◌≡◌, ap, ◌∙◌, arith}
use Rattle.purchases.proofs.Folding.{iterate_goes_on}
use Rattle.forced_purchase.specs.Forced.{sold_further, sold_singly}
use Rattle.tables.specs.Steps.{iterate}
use Rattle.forced_purchase.proofs.forced.sell_singly.Goals as goal

pub loop-preserved : goal.loop-preserved
loop-preserved c =
    record {
      so_far = iterate_goes_on (sold_further c.args.by) c.args.history.now c.loop.history c.sell_further.new.history
          c.loop.counter c.loop.invariant.so_far c.in_ok-sell_further.ensures.after;
      seats = c.in_ok-sell_further.ensures.seats ∙ c.loop.invariant.seats;
      game = c.in_ok-sell_further.ensures.game;
    }

pub returns-clause-after : goal.returns-clause-after
unfolding sold_singly
returns-clause-after c =
    let all : c.loop.counter ≡ 40 = omega arith in
    c.loop.invariant.so_far ∙ ap (λ n. iterate (sold_further c.args.by) n c.args.history.now) all
