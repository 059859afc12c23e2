use Rattle.std.proofs.Common.{arith}
use Rattle.desk_dues.proofs.Loops.{list_goes_on}
use Rattle.desk_dues.specs.Dangers.{danger_to}
use Rattle.tables.specs.Roster.{companies}
use Rattle.desk_dues.proofs.danger.dangers_with.Goals as goal

pub loop-company-preserved : goal.loop-company-preserved
loop-company-preserved c =
    record {
      items = list_goes_on (danger_to c.args.history.now c.args.fall) c.loop-company.dangers.items
          c.put_danger.new.dangers.items companies c.loop-company.company-index _ c.loop-company-test.true
          c.loop-company.invariant.items c.put_danger.ensures.put;
      short = omega (arith, c.loop-company.invariant.short, c.put_danger.ensures.longer);
    }
