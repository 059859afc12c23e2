use Rattle.std.proofs.Common.{refl, arith}
use Rattle.report.proofs.Worths.{sum_step}
use Rattle.report.specs.EndWorth.{worth_of_shares}
use Rattle.tables.specs.Roster.{companies}
use Rattle.report.proofs.end_worth.shares_worth.Goals as goal

pub loop-company-preserved : goal.loop-company-preserved
loop-company-preserved c =
    let before = c.loop-company.invariant in
    let one = c.company_worth-sum.ensures in (
      refl,
      sum_step (worth_of_shares c.args.view.now.events c.args.seat) companies c.loop-company.company-index _
          c.loop-company.sum _
          c.loop-company-test.true before.1 one.worth,
      omega (arith, before.2, one.small),
    )
