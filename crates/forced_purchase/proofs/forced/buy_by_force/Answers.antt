-- Money is raised while the company still has no train.
use Rattle.std.proofs.Common.{◌<◌, ◌∙◌, ap, sym, subst}
use Rattle.totals.specs.LookBack.{Game}
use Rattle.forced_purchase.proofs.TrainCounts.{still_none}
use Rattle.forced_purchase.proofs.Steps.{forced_then}
use Rattle.forced_purchase.proofs.forced.buy_by_force.Goals as goal

pub rule_raises-requires-clause-at_table : goal.rule_raises-requires-clause-at_table
rule_raises-requires-clause-at_table c = subst (λ (game : Game). c.args.by.president.0 < game.seats)
    (sym c.in_ok-record_event.ensures.ok) c.requires.at_table

pub sell_singly-requires-clause-at_table : goal.sell_singly-requires-clause-at_table
sell_singly-requires-clause-at_table c =
    subst (λ n. c.args.by.president.0 < n) (sym (c.in_ok-rule_raises.ensures.seats
    ∙ ap (λ (game : Game). game.seats) c.in_ok-record_event.ensures.ok)) c.requires.at_table

pub conclude-requires-clause-at_table : goal.conclude-requires-clause-at_table
conclude-requires-clause-at_table c =
    subst (λ n. c.args.by.president.0 < n) (sym (c.in_ok-sell_singly.ensures.seats ∙ c.in_ok-rule_raises.ensures.seats
    ∙ ap (λ (game : Game). game.seats) c.in_ok-record_event.ensures.ok)) c.requires.at_table

pub conclude-requires-clause-none : goal.conclude-requires-clause-none
conclude-requires-clause-none c =
    still_none c.args.by c.args.raises.items c.args.history.now c.record_event.new.self c.rule_raises.new.history
    c.sell_singly.new.history c.in_ok-record_event.ensures.ok c.in_ok-rule_raises.ensures.after
    c.in_ok-sell_singly.ensures.after c.requires.none

pub returns-clause-after : goal.returns-clause-after
returns-clause-after c =
    forced_then c.args.by c.args.raises.items c.args.history.now c.record_event.new.self c.rule_raises.new.history
    c.sell_singly.new.history c.conclude.new.history c.in_ok-record_event.ensures.ok
    c.in_ok-rule_raises.ensures.after c.in_ok-sell_singly.ensures.after c.in_ok-conclude.ensures.after
