-- Numbers of dollars are compared as they are.
use Rattle.std.proofs.Common.{ℤ, pos, ap, ◌∙◌, SFits}
use Rattle.std.specs.Int.{w128}
use Rattle.std.specs.Int.Signed.{lt_z}
use Rattle.std.proofs.lemmas.Int.{to_z-of_z}
use Rattle.totals.specs.LookBack.{cash_of}
use Rattle.desk_rules.proofs.private_rules.private_costs_too_much.Goals as goal

pub returns : goal.returns
returns c =
    let cash : SFits w128 c.cash.result = record { sfits = c.cash.type_inv } in
    let price : SFits w128 c.from.result = record { sfits = c.from.type_inv } in
    let view = c.args.view.now in
    rw (to_z-of_z w128 c.cash.result cash, to_z-of_z w128 c.from.result price, c.from.ensures)
    (ap (λ (z : ℤ). lt_z z (pos c.args.price)) (c.cash.ensures.sum
    ∙ ap (cash_of view.seats view.events) c.of_company.ensures))
