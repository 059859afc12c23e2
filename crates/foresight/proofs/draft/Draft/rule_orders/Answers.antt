use Rattle.std.proofs.Common.{List, subst, sym}
use Rattle.operating.proofs.CompanyOrders.{orders_small}
use Rattle.sheets.specs.Part.{Numbered}
use Rattle.turns.specs.Small.{AreSmall}
use Rattle.foresight.proofs.draft.Draft.rule_orders.Goals as goal

pub rule_orders-requires-clause-small : goal.rule_orders-requires-clause-small
rule_orders-requires-clause-small c =
    subst (λ (lines : List Numbered). AreSmall lines) (sym c.company_orders-orders.ensures)
    (orders_small c.args.self.now.sheets.now c.args.turn.now.round c.args.turn.now.by.president.0
    c.args.turn.now.by.company)
