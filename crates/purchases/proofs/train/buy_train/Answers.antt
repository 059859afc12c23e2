use Rattle.std.proofs.Common.{sym, ◌∙◌}
use Rattle.purchases.proofs.PhaseLemmas.{train_begins}
use Rattle.purchases.proofs.train.buy_train.Goals as goal

pub returns-in_ok-begin_phase-clause-after : goal.returns-in_ok-begin_phase-clause-after
returns-in_ok-begin_phase-clause-after c =
    train_begins c.args.history.now c.take_train.new.history c.begin_phase.new.history c.args.company c.args.purchase
    (sym c.begins_phase-begins.ensures ∙ c.if-begins.true) c.in_ok-take_train.ensures.after
    c.in_ok-begin_phase.ensures.after
