-- The money is as much as the revenue.
use Rattle.std.proofs.Common.{◌∙◌}
use Rattle.std.proofs.lemmas.Int.{to_z-of_z}
use mir.Syntax.{w128}
use Rattle.best_run.proofs.runner.greatest_money.Goals as goal

pub returns : goal.returns
returns g c = (
  c.in_ok-revenue.revenue,
  to_z-of_z w128 c.from.result (record { sfits = c.from.type_inv })
      ∙ c.from.ensures,
  c.in_ok-revenue.ensures,
)
