-- The orders of a company lead where their lines do, then what it withholds by itself, and the end
-- of its turn.
use Rattle.std.proofs.Common.{◌≡◌, ℕ, ◌≤◌, ◌<◌, List, ◌++◌, Ok, Err, Result, refl, ap, sym, subst, ◌∙◌}
use Rattle.std.proofs.lemmas.Result.{err_from_is_err_and}
use Rattle.legal_runs.specs.declared.runner.RunnerFault.{RunnerFault}
use Rattle.legal_runs.specs.declared.runner.RunnerFault.TheVariants.{Memory}
use Rattle.forced_purchase.specs.Raise.{raises_in}
use Rattle.forced_purchase.specs.declared.operator.Operator.{Operator}
use Rattle.operating.proofs.PayLemmas.{withheld_seats}
use Rattle.operating.proofs.PrefixStays.{end_prefix}
use Rattle.operating.proofs.StaysInOrder.{after_withholding}
use Rattle.operating.proofs.TurnBegun.{ended}
use Rattle.operating.proofs.TurnCalled.{orders_broken_off, orders_called}
use Rattle.operating.specs.Calls.{Makes}
use Rattle.operating.specs.CompanyOrders.{LinesLead}
use Rattle.operating.specs.CompanyTurn.{state}
use Rattle.operating.specs.TurnCalls.{OrdersCall, led_to}
use Rattle.operating.specs.TurnState.{TurnState}
use Rattle.sheets.specs.Part.{Numbered, SheetParts}
use Rattle.turns.specs.Small.{AreSmall}
use Rattle.operating.proofs.company_turn.CompanyTurn.play.Goals as goal

pub rule_lines-requires-clause-small : goal.rule_lines-requires-clause-small
rule_lines-requires-clause-small g c =
    subst (λ (parts : SheetParts). AreSmall parts.before) (sym c.duplicate-lines.ensures) c.requires.small

pub end-requires-clause-few : goal.end-requires-clause-few
end-requires-clause-few g c =
    subst (λ (n : ℕ). n ≤ 6) (sym (ap (λ (turn : TurnState). turn.game.seats) c.in_ok-withhold_if_unpaid.ensures.turn
    ∙ withheld_seats c.rule_lines.new.self.by.company (state c.rule_lines.new.self)
    ∙ c.in_ok-rule_lines.ensures.seats)) c.requires.few

pub end-requires-clause-at_table : goal.end-requires-clause-at_table
end-requires-clause-at_table g c =
    subst (λ (by : Operator). by.president.0 < c.withhold_if_unpaid.new.self.history.seats)
    (sym (c.in_ok-withhold_if_unpaid.ensures.order.by ∙ c.in_ok-rule_lines.ensures.by))
    (subst (λ (n : ℕ). c.args.self.now.by.president.0 < n)
    (sym (ap (λ (turn : TurnState). turn.game.seats) c.in_ok-withhold_if_unpaid.ensures.turn
    ∙ withheld_seats c.rule_lines.new.self.by.company (state c.rule_lines.new.self)
    ∙ c.in_ok-rule_lines.ensures.seats)) c.requires.at_table)

pub end-requires-clause-order : goal.end-requires-clause-order
end-requires-clause-order g c =
    after_withholding c.rule_lines.new.self c.withhold_if_unpaid.new.self c.in_ok-withhold_if_unpaid.ensures.turn
    c.in_ok-withhold_if_unpaid.ensures.order

pub returns-clause-turn : goal.returns-clause-turn
returns-clause-turn g c =
    let old = c.args.self.now in
    let ruled = c.rule_lines.new.self in (
      state ruled,
      subst (λ (parts : SheetParts). LinesLead old.by (state old) parts.before (state ruled)) c.duplicate-lines.ensures
          c.in_ok-rule_lines.ensures.turn,
      ended old.by ruled c.withhold_if_unpaid.new.self c.rule_lines.new.raises.items c.args.orders.now.before
          c.end.new.self.history c.in_ok-rule_lines.ensures.by c.in_ok-withhold_if_unpaid.ensures.order.by
          (c.in_ok-rule_lines.ensures.raises
          ∙ ap (λ (items : List Numbered). items ++ raises_in c.duplicate-lines.result.before) c.new-raises.ensures.items
          ∙ ap (λ (parts : SheetParts). raises_in parts.before) c.duplicate-lines.ensures)
          c.in_ok-withhold_if_unpaid.ensures.turn c.in_ok-end.ensures.turn,
    )

pub returns-clause-calls : goal.returns-clause-calls
unfolding returns-clause-turn
returns-clause-calls g c =
    let old = c.args.self.now in
    orders_called g.R.Runner.earns old.by old.round c.duplicate-lines.result.before c.args.orders.now.before
    (state old) (state c.rule_lines.new.self) (Ok c.end.new.self.history) c.args.runner.now c.rule_lines.new.runner
    (ap (λ (parts : SheetParts). parts.before) c.duplicate-lines.ensures) c.in_ok-rule_lines.ensures.calls
    ((returns-clause-turn g c).2, refl)

pub returns-clause-prefix : goal.returns-clause-prefix
returns-clause-prefix g c =
    end_prefix c.withhold_if_unpaid.new.self.by c.rule_lines.new.raises.items c.end.new.self.board.value
    c.withhold_if_unpaid.new.self.history c.end.new.self.history c.in_ok-end.ensures.turn c.in_ok-end.ensures.prefix

pub returns-in_err-withhold_if_unpaid-clause-calls : goal.returns-in_err-withhold_if_unpaid-clause-calls
returns-in_err-withhold_if_unpaid-clause-calls g c =
    let fault_is = err_from_is_err_and c.from_residual-in_err-withhold_if_unpaid.result
    c.from_residual-in_err-withhold_if_unpaid.ensures.1 in
    let is : c.from_residual-in_err-withhold_if_unpaid.result ≡ Err Memory = fault_is.1 ∙ ap Err fault_is.2 in
    let old = c.args.self.now in
    subst (λ (met : Result _ RunnerFault). Makes g.R.Runner.earns c.args.runner.now
    (OrdersCall old.by old.round c.args.orders.now.before (state old)
    (led_to c.withhold_if_unpaid.new.self.history met)) c.rule_lines.new.runner) (sym is)
    (orders_called g.R.Runner.earns old.by old.round c.duplicate-lines.result.before c.args.orders.now.before
    (state old) (state c.rule_lines.new.self) (Err Memory) c.args.runner.now c.rule_lines.new.runner
    (ap (λ (parts : SheetParts). parts.before) c.duplicate-lines.ensures) c.in_ok-rule_lines.ensures.calls (refl, refl))

pub returns-in_err-end-clause-calls : goal.returns-in_err-end-clause-calls
returns-in_err-end-clause-calls g c =
    let fault_is = err_from_is_err_and c.from_residual-in_err-end.result c.from_residual-in_err-end.ensures.1 in
    let is : c.from_residual-in_err-end.result ≡ Err Memory = fault_is.1 ∙ ap Err fault_is.2 in
    let old = c.args.self.now in
    subst (λ (met : Result _ RunnerFault). Makes g.R.Runner.earns c.args.runner.now
    (OrdersCall old.by old.round c.args.orders.now.before (state old) (led_to c.end.new.self.history met))
    c.rule_lines.new.runner) (sym is)
    (orders_called g.R.Runner.earns old.by old.round c.duplicate-lines.result.before c.args.orders.now.before
    (state old) (state c.rule_lines.new.self) (Err Memory) c.args.runner.now c.rule_lines.new.runner
    (ap (λ (parts : SheetParts). parts.before) c.duplicate-lines.ensures) c.in_ok-rule_lines.ensures.calls (refl, refl))

pub returns-in_err-rule_lines-clause-calls : goal.returns-in_err-rule_lines-clause-calls
returns-in_err-rule_lines-clause-calls g c =
    let fault_is = err_from_is_err_and c.from_residual.result
    c.from_residual.ensures.1 in
    let fault : RunnerFault = c.in_err-rule_lines.field-0.0 in
    let is : c.from_residual.result ≡ Err fault = fault_is.1 ∙ ap Err fault_is.2 in
    let old = c.args.self.now in
    subst (λ (met : Result _ RunnerFault). Makes g.R.Runner.earns c.args.runner.now
    (OrdersCall old.by old.round c.args.orders.now.before (state old) (led_to c.rule_lines.new.self.history met))
    c.rule_lines.new.runner) (sym is)
    (orders_broken_off g.R.Runner.earns old.by old.round c.duplicate-lines.result.before c.args.orders.now.before
    (state old) fault c.args.runner.now c.rule_lines.new.runner
    (ap (λ (parts : SheetParts). parts.before) c.duplicate-lines.ensures) c.in_err-rule_lines.ensures.calls)
