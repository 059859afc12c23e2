use Rattle.std.proofs.Common.{◌≡◌, ℕ, Option, unwrap_or, ap, ◌∙◌, arith}
use Rattle.privates.proofs.ParOfBoLemmas.{par_low, par_set_is_par}
use Rattle.privates.specs.ParOfBo.{par_set_by}
use Rattle.tables.specs.Chart.{least_par}
use Rattle.privates.proofs.par_of_bo.par_set_by.Goals as goal

pub returns-clause-small : goal.returns-clause-small
returns-clause-small c =
    let events = c.args.view.now.events in
    let low = par_low (par_set_by events c.args.buyer) (par_set_is_par events c.args.buyer) in
    let is : c.unwrap_or.result ≡ par_set_by events c.args.buyer =
    c.unwrap_or.ensures ∙ ap (λ (found : Option ℕ). unwrap_or found least_par) c.par_ordered.ensures in
    omega arith
