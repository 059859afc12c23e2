use Rattle.certs.proofs.CompanyTableLemmas.{rows_are}
use Rattle.certs.proofs.company_tables.rows_of.Goals as goal

pub returns-clause-shares : goal.returns-clause-shares
returns-clause-shares c =
    rows_are c.args.view.now.events _ _ _ _ _ _ _ _ c.row_of.ensures.shares c.row_of-2.ensures.shares
    c.row_of-3.ensures.shares c.row_of-4.ensures.shares c.row_of-5.ensures.shares c.row_of-6.ensures.shares
    c.row_of-7.ensures.shares c.row_of-8.ensures.shares
