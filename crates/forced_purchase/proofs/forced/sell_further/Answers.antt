-- The president sells one more share if they fall short.
use Rattle.std.proofs.Common.{sym, ◌∙◌}
use Rattle.forced_purchase.proofs.Steps.{not_sold, sold_then}
use Rattle.forced_purchase.proofs.forced.sell_further.Goals as goal

pub returns-then-falls_short-clause-after : goal.returns-then-falls_short-clause-after
returns-then-falls_short-clause-after c =
    sold_then c.args.by c.args.history.now c.sell_next.new.history (sym c.falls_short.ensures ∙ c.if-falls_short.true)
    c.in_ok-sell_next.ensures.after

pub returns-clause-after : goal.returns-clause-after
returns-clause-after c = not_sold c.args.by c.args.history.now (sym c.falls_short.ensures ∙ c.if-falls_short.false)
