-- It is the greatest in whichever order the trains are.
use Rattle.std.proofs.Common.{List, subst, ◌∙◌}
use Rattle.tables.specs.declared.rolling_stock.Kind.{Kind}
use Rattle.legal_runs.specs.Set.{IsGreatest}
use Rattle.certificate.specs.Tree.{greatest_first}
use Rattle.legal_runs.proofs.Greatest.{order_of_trains}
use Rattle.certificate.proofs.Leaves.{same_number}
use Rattle.best_run.proofs.revenue.greatest_revenue.Goals as goal

pub returns : goal.returns
returns g c =
    let position = g.N.Network.position c.args.network.now in
    let company = c.args.company in
    let trains = c.args.trains.now in
    let kinds = greatest_first trains in
    let amount = c.in_ok-found.found.amount in
    order_of_trains position company kinds trains amount (λ kind. same_number kind trains)
    (subst (λ (ks : List Kind). IsGreatest position company ks amount) (c.deref.ensures.value ∙ c.in_ok-kinds.ensures)
    c.in_ok-found.ensures.greatest)
