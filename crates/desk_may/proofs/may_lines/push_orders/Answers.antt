use Rattle.std.proofs.Common.{◌↔◌, IsTrue, [], ◌++◌, List, ℕ, if◌then◌else◌, refl, ap, ◌∙◌, subst}
use Rattle.desk_may.proofs.OperatingLemmas.{lines_added, raise_lines_by_test}
use Rattle.desk_may.specs.OperatingLines.{company_head, private_rows_of, raise_lines, train_lines}
use Rattle.desk_may.specs.RowLines.{row_lines}
use Rattle.forced_purchase.specs.declared.operator.Operator.{Operator}
use Rattle.foresight.specs.Ahead.{OrdersState, withheld_in}
use Rattle.operating.specs.TurnEnd.{IsDue}
use Rattle.desk_may.proofs.may_lines.push_orders.Goals as goal

pub returns-clause-lines : goal.returns-clause-lines
returns-clause-lines c =
    let orders : OrdersState = c.args.orders in
    let withheld : OrdersState = withheld_in orders in
    let raised : List ℕ = if c.in_ok-orders-2.due then raise_lines withheld else [] in
    record {
      lines = company_head orders.by.company ++ train_lines c.args.presidents.now withheld
          ++ row_lines orders.file (private_rows_of orders.turn.game orders.by.company) ++ raised;
      written = record {
        raised = raised;
        due = raise_lines_by_test c.in_ok-orders-2.due withheld
            (subst (λ (its : OrdersState). IsTrue c.in_ok-orders-2.due ↔ IsDue its.turn.game its.by.company)
            c.in_ok-orders.ensures c.in_ok-orders-2.ensures.due);
        all = refl;
      };
      added = lines_added c.args.presidents.now orders c.in_ok-orders.orders c.in_ok-orders-2.orders _ _ _
          c.in_ok-orders-2.due _ _ _ _ _ (ap (λ (by : Operator). by.company) c.by.ensures) c.in_ok-orders.ensures
          c.in_ok-orders-2.ensures.same
          (c.sheets.ensures ∙ ap (λ (its : OrdersState). its.file) c.in_ok-orders.ensures)
          (c.as_slice.ensures.value ∙ c.in_ok-privates.ensures) c.in_ok-push_head.ensures c.in_ok-push_trains.ensures
          c.in_ok-push_rows.ensures c.in_ok-push_raises_if.ensures;
    }
