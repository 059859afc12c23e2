use Rattle.std.proofs.Common.{arith}
use Rattle.desk_dues.proofs.Loops.{sum_goes_on}
use Rattle.desk_dues.specs.Raised.{most_of_company}
use Rattle.tables.specs.Roster.{companies}
use Rattle.desk_dues.proofs.raised.raised_at_most.Goals as goal

pub loop-company-preserved : goal.loop-company-preserved
loop-company-preserved c =
    record {
      value = sum_goes_on (most_of_company c.args.history.now c.args.by) c.loop-company.sum c.most_of_company-sum.result companies
          c.loop-company.company-index _ c.loop-company-test.true c.loop-company.invariant.value
          c.most_of_company-sum.ensures.value;
      small = omega (arith, c.loop-company.invariant.small, c.most_of_company-sum.ensures.small);
    }
