use Rattle.certs.proofs.CompanyTableLemmas.{kept_is, kept_moderate, row_bounded, row_is}
use Rattle.certs.proofs.company_tables.row_of.Goals as goal

pub returns-clause-shares : goal.returns-clause-shares
returns-clause-shares c =
    row_is
    c.args.view.now.events
    c.args.company
    _ _ _ _ _ _ _ _
    (kept_is c.shares.result _ c.shares.ensures.within c.shares.ensures.sum)
    (kept_is c.shares-2.result _ c.shares-2.ensures.within c.shares-2.ensures.sum)
    (kept_is c.shares-3.result _ c.shares-3.ensures.within c.shares-3.ensures.sum)
    (kept_is c.shares-4.result _ c.shares-4.ensures.within c.shares-4.ensures.sum)
    (kept_is c.shares-5.result _ c.shares-5.ensures.within c.shares-5.ensures.sum)
    (kept_is c.shares-6.result _ c.shares-6.ensures.within c.shares-6.ensures.sum)
    (kept_is c.shares-7.result _ c.shares-7.ensures.within c.shares-7.ensures.sum)
    (kept_is c.shares-8.result _ c.shares-8.ensures.within c.shares-8.ensures.sum)

pub returns-clause-bounded : goal.returns-clause-bounded
returns-clause-bounded c =
    row_bounded
    _ _ _ _ _ _ _ _
    (kept_moderate c.shares.result c.shares.ensures.within)
    (kept_moderate c.shares-2.result c.shares-2.ensures.within)
    (kept_moderate c.shares-3.result c.shares-3.ensures.within)
    (kept_moderate c.shares-4.result c.shares-4.ensures.within)
    (kept_moderate c.shares-5.result c.shares-5.ensures.within)
    (kept_moderate c.shares-6.result c.shares-6.ensures.within)
    (kept_moderate c.shares-7.result c.shares-7.ensures.within)
    (kept_moderate c.shares-8.result c.shares-8.ensures.within)
