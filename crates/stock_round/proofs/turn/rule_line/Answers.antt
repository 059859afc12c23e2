use Rattle.std.proofs.Common.{subst}
use Rattle.events.specs.declared.ruling.Refusal.TheVariants.{Stock}
use Rattle.history.proofs.NearlySound.{ruling_quiet}
use Rattle.sheets.specs.Part.{line_unread}
use Rattle.stock_round.proofs.OrderLemmas.{may_act_after}
use Rattle.stock_round.specs.Orders.{stock_judgement, stock_refusal}
use Rattle.turns.proofs.Ruled.{none_as_refusal}
use Rattle.turns.specs.Ruling.{IsOrderToDo, IsToDo, has_place_in_turn}
use Rattle.stock_round.proofs.turn.rule_line.Goals as goal

pub act-requires-clause-may : goal.act-requires-clause-may
act-requires-clause-may c =
    let judgement = stock_refusal c.args.history.now c.args.seat c.args.deals.bought in
    let events = c.args.history.now.events in
    let line = line_unread c.args.line in
    let order = c.rule_line.new.order in
    let to_do : IsToDo has_place_in_turn judgement events line order =
    subst (IsOrderToDo has_place_in_turn judgement events line order) c.if-not-branch.false
    c.in_ok-rule_line.ensures.order
    in
    may_act_after c.args.history.now c.rule_line.new.history _ c.args.seat c.args.deals.bought order
    c.in_ok-rule_line.ensures.ruling (ruling_quiet _ _ _)
    (none_as_refusal Stock (stock_judgement c.args.history.now c.args.seat c.args.deals.bought order) to_do.kept)
