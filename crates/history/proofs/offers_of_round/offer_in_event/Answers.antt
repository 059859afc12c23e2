use Rattle.std.proofs.Common.{is_some, refl, ap, sym, ◌∙◌}
use Rattle.events.specs.Offers.{offer_obeyed, offer_said, offered_in}
use Rattle.totals.proofs.Silent.{no_word_said}
use Rattle.history.proofs.offers_of_round.offer_in_event.Goals as goal

pub returns-in-None : goal.returns-in-None
returns-in-None c = λ seat sale.
    let none = ap (offer_said sale) (sym c.in-None.is) ∙ c.offer.ensures sale in
    ap is_some
    (no_word_said (offered_in sale) (offer_obeyed sale) c.args.event.now c.in-Ruled.seat c.in-Ruled.line seat
    c.in-Ruled.ruling (λ condition order. refl)
    c.in-Ruled.is none)
