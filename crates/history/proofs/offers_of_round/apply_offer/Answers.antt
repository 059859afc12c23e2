use Rattle.std.proofs.Common.{is_some, ap, sym, ◌∙◌}
use Rattle.history.proofs.RoundOffers.{offer_added}
use Rattle.history.proofs.offers_of_round.apply_offer.Goals as goal

pub returns-clause-applied : goal.returns-clause-applied
returns-clause-applied c = λ seat sale.
    let quiet = sym (c.is_some.ensures ∙ ap is_some c.round.ensures) ∙ c.if-is_some.false in
    offer_added c.args.event.now c.args.offers.now.items _ c.offer_in_event.result seat sale quiet
    c.push_any.ensures.kept (c.offer_in_event.ensures seat sale)
