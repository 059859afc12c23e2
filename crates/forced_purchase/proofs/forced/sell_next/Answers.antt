-- The president sells a share of the first company of which they may sell one.
use Rattle.std.proofs.Common.{◌≡◌, None, sym, ◌∙◌}
use Rattle.forced_purchase.proofs.Steps.{may_sell_share, none_sold, one_sold}
use Rattle.forced_purchase.proofs.forced.sell_next.Goals as goal

pub sell_block-requires-clause-may : goal.sell_block-requires-clause-may
sell_block-requires-clause-may c =
    may_sell_share c.args.by c.args.history.now c.in-Some.company _ c.share_of.ensures
    (sym c.next_to_sell.ensures ∙ c.in-Some.is)

pub returns-in-Some-clause-after : goal.returns-in-Some-clause-after
returns-in-Some-clause-after c =
    one_sold c.args.by c.args.history.now c.sell_block.new.history c.in-Some.company _ c.share_of.ensures
    (sym c.next_to_sell.ensures ∙ c.in-Some.is) c.in_ok-sell_block.ensures.after

pub returns-clause-after : goal.returns-clause-after
returns-clause-after c =
    let none : c.next_to_sell.result ≡ None = cc in
    none_sold c.args.by c.args.history.now (sym c.next_to_sell.ensures ∙ none)
