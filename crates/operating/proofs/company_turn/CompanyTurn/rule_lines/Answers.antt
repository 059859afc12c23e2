use Rattle.std.proofs.Common.{◌≡◌, List, Ok, Err, Result, ap, sym, subst, ◌∙◌}
use Rattle.std.proofs.lemmas.Result.{err_from_is_err_and}
use Rattle.legal_runs.specs.declared.runner.RunnerFault.{RunnerFault}
use Rattle.operating.proofs.HeldRaises.{held_all, held_on}
use Rattle.operating.proofs.StaysInOrder.{after_line}
use Rattle.operating.proofs.TurnCalled.{line_calls_end, line_calls_on, no_line_calls}
use Rattle.operating.proofs.TurnLaws.{line_seats}
use Rattle.operating.specs.Calls.{Makes}
use Rattle.operating.specs.CompanyOrders.{LineLeads, LinesLead}
use Rattle.operating.specs.CompanyTurn.{state}
use Rattle.operating.specs.TurnCalls.{LineCalls, LinesCall, led_to}
use Rattle.forced_purchase.specs.declared.operator.Operator.{Operator}
use Rattle.sheets.specs.Part.{Numbered, SheetParts, line_unread}
use Rattle.tables.specs.declared.round.Round.{Round}
use Rattle.turns.specs.Small.{AreSmall}
use Rattle.operating.proofs.company_turn.CompanyTurn.rule_lines.Goals as goal

pub loop-line-preserved : goal.loop-line-preserved
loop-line-preserved g c =
    let begun = c.args.self.now in
    let old = c.loop-line.self in
    let new = c.rule_line.new.self in
    let line = line_unread c.in-Some.line in
    let before = c.loop-line.invariant in
    let are = ap (λ (parts : SheetParts). parts.before) c.in-Some.ensures in
    let on = c.in_ok-rule_line.ensures.order in
    let leads : LineLeads begun.by (state old) line (state new) =
    subst (λ (by : Operator). LineLeads by (state old) line (state new)) before.by c.in_ok-rule_line.ensures.turn in
    record {
      seats = line_seats begun.by (state old) line line.reading (state new) leads ∙ before.seats;
      by = on.by ∙ before.by;
      turn = λ end rest. before.turn end (subst (λ (lines : List Numbered). LinesLead begun.by (state old) lines end)
          (sym are) (state new, leads, rest));
      calls = λ outcome after made. before.calls outcome after
          (line_calls_on g.R.Runner.earns begun.by begun.round _ line _ (state old) (state new) outcome _ _ after are
          (subst (λ (round : Round). Makes g.R.Runner.earns c.loop-line.runner
          (LineCalls begun.by round line (state old) (Ok (state new))) c.rule_line.new.runner) before.round
          (subst (λ (by : Operator). Makes g.R.Runner.earns c.loop-line.runner
          (LineCalls by old.round line (state old) (Ok (state new))) c.rule_line.new.runner) before.by
          c.in_ok-rule_line.ensures.calls)) made);
      round = on.round ∙ before.round;
      small = (subst AreSmall are before.small).1;
      order = after_line old new line line.reading c.in_ok-rule_line.ensures.turn on;
      raises = held_on _ c.loop-line.raises.items c.rule_line.new.raises.items line _ _ are
          c.in_ok-rule_line.ensures.raises before.raises;
    }

pub rule_line-requires-clause-small : goal.rule_line-requires-clause-small
rule_line-requires-clause-small g c =
    (subst AreSmall (ap (λ (parts : SheetParts). parts.before) c.in-Some.ensures) c.loop-line.invariant.small).0

pub returns-in_err-rule_line-clause-calls : goal.returns-in_err-rule_line-clause-calls
returns-in_err-rule_line-clause-calls g c =
    let begun = c.args.self.now in
    let old = c.loop-line.self in
    let line = line_unread c.in-Some.line in
    let before = c.loop-line.invariant in
    let fault_is = err_from_is_err_and c.from_residual.result c.from_residual.ensures.1 in
    let is : c.from_residual.result ≡ Err c.in_err-rule_line.field-0.0 = fault_is.1 ∙ ap Err fault_is.2 in
    subst (λ (met : Result _ RunnerFault). Makes g.R.Runner.earns c.args.runner.now
    (LinesCall begun.by begun.round c.args.orders.now.before (state begun)
    (led_to (state c.rule_line.new.self) met)) c.rule_line.new.runner) (sym is)
    (before.calls (Err c.in_err-rule_line.field-0.0) _
    (line_calls_end g.R.Runner.earns begun.by begun.round _ line _ (state old) _ _ _
    (ap (λ (parts : SheetParts). parts.before) c.in-Some.ensures)
    (subst (λ (round : Round). Makes g.R.Runner.earns c.loop-line.runner
    (LineCalls begun.by round line (state old) (Err c.in_err-rule_line.field-0.0)) c.rule_line.new.runner)
    before.round
    (subst (λ (by : Operator). Makes g.R.Runner.earns c.loop-line.runner
    (LineCalls by old.round line (state old) (Err c.in_err-rule_line.field-0.0)) c.rule_line.new.runner) before.by
    c.in_err-rule_line.ensures.calls))))

pub returns-clause-calls : goal.returns-clause-calls
returns-clause-calls g c =
    c.loop-line.invariant.calls _ _ (no_line_calls g.R.Runner.earns c.args.self.now.by c.args.self.now.round _ _ _
    c.in_default.ensures.0)

pub returns-clause-raises : goal.returns-clause-raises
returns-clause-raises g c = held_all _ c.loop-line.raises.items _ c.in_default.ensures.0 c.loop-line.invariant.raises
