use Rattle.purchases.proofs.Folding.{fold_goes_on}
use Rattle.desk_dues.specs.Raised.{block_sizes, or_block}
use Rattle.desk_dues.proofs.raised.most_of_company.Goals as goal

pub loop-shares-preserved : goal.loop-shares-preserved
loop-shares-preserved c =
    record {
      value = fold_goes_on (or_block c.args.history.now c.args.by c.args.company) 0 c.loop-shares.most c.or_block-most.result
          block_sizes c.loop-shares.shares-index _ c.loop-shares-test.true c.loop-shares.invariant.value
          c.or_block-most.ensures.value;
      small = c.or_block-most.ensures.small;
    }
