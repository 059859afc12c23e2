use Rattle.report.specs.Statement.{started_line}
use Rattle.report.proofs.statement.push_companies.Goals as goal
use Rattle.tables.specs.Roster.{companies}
use Rattle.tables.proofs.OneMore.{elements_step}

pub loop-company-preserved : goal.loop-company-preserved
loop-company-preserved c =
    elements_step (λ company. started_line c.args.sheets.now c.args.view.now company) companies c.loop-company.company-index _ _ _ _
    c.loop-company-test.true c.loop-company.invariant c.in_ok-push_company.ensures
