use Rattle.std.proofs.Common.{◌≤◌, refl, sym, subst, ◌∙◌, arith}
use Rattle.std.proofs.lemmas.List.Elements.{All-push}
use Rattle.events.specs.Event.{sum_of, tile_laid, token_placed}
use Rattle.events.specs.declared.event.Event.{Event}
use Rattle.totals.proofs.InOrder.{all_kept}
use Rattle.history.proofs.RoundOffers.{offers_applied}
use Rattle.totals.specs.Offers.{AreOffersOf}
use Rattle.history.proofs.list.History.append.Goals as goal

pub invariant_of-self-2 : goal.invariant_of-self-2
invariant_of-self-2 c =
    let events = c.self.inside.events.items in
    let sums = All-push (λ (e : Event). sum_of e ≤ 1000000) _ _ c.self.invariant.0 c.requires in
    rw (c.in_ok-push.ensures.items, c.reserve.ensures.items) (
      sums,
      c.apply.ensures _ (omega (arith, c.push.ensures, c.reserve.ensures))
          (c.reserve-2.ensures.same _ c.self.invariant.1),
      all_kept tile_laid events c.args.event _ _ _ (c.make_room.ensures.lays ∙ c.self.invariant.2) refl
          c.keep.ensures.lays,
      all_kept token_placed events c.args.event _ _ _ (c.make_room.ensures.tokens ∙ c.self.invariant.3) refl
          c.keep.ensures.tokens,
      offers_applied events c.args.event _ _ c.keep.ensures.offers
          (subst (λ offers. AreOffersOf offers events) (sym c.make_room.ensures.offers) c.self.invariant.4),
    )
