use Rattle.std.proofs.Common.{◌≡◌, subst, sym}
use Rattle.desk_why.specs.Cause.{cause_of_run}
use Rattle.order_grammar.specs.declared.order.Order.{Order}
use Rattle.desk_why.proofs.cause.cause_of_run.Goals as goal

pub returns-in-Run : goal.returns-in-Run
returns-in-Run c =
    subst (λ (order : Order). c.cause_of_kind.result ≡ cause_of_run c.args.view.now.events c.args.company order)
    (sym c.in-Run.is) c.cause_of_kind.ensures
