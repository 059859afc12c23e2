-- The sales that were offered in the round, with that of one more event.
use Rattle.std.proofs.Common.{◌≡◌, ◌||◌, false, if◌then◌else◌, List, [], ◌∷◌, ◌++◌, Option, Some, None, is_some, refl}
use Rattle.std.proofs.Common.{ap, sym, ◌∙◌}
use Rattle.std.proofs.lemmas.List.Folds.{list_any-append}
use Rattle.std.specs.List.{cons_option}
use Rattle.std.proofs.Math.Bool.{or-false}
use Rattle.events.specs.Event.{obeyed_of, round_begun_by}
use Rattle.events.specs.Offers.{offered_in}
use Rattle.events.specs.Orders.{said_by}
use Rattle.events.specs.declared.event.Event.{Event}
use Rattle.totals.proofs.Applied.{round_flag_applied}
use Rattle.totals.specs.Totals.{flag_then}
use Rattle.totals.specs.Offers.{AreOffersOf, is_among, is_that_offer, says_offer}
use Rattle.order_grammar.specs.declared.order.Offer.{Offer}
use Rattle.tables.specs.declared.seat.Seat.{Seat}

-- an offer that is said is the one among those that it adds
one_said : (seat : Seat) (sale : Offer) (said : Option (Seat × Offer))
    → is_among seat sale (cons_option said []) ≡ says_offer seat sale said
one_said seat sale None = refl
one_said seat sale (Some offer) = or-false (is_that_offer seat sale offer)

-- the offers of a round, with that of an event
pub offer_added :
    (event : Event) (offers longer : List (Seat × Offer)) (said : Option (Seat × Offer)) (seat : Seat) (sale : Offer)
    → is_some (round_begun_by event) ≡ false →
    longer ≡ offers ++ cons_option said [] → says_offer seat sale said
    ≡ is_some (said_by seat (offered_in sale) (obeyed_of event)) →
    is_among seat sale longer ≡ flag_then event (is_some (said_by seat (offered_in sale) (obeyed_of event)))
    (is_among seat sale offers)
offer_added event offers longer said seat sale quiet grows says =
    ap (is_among seat sale) grows
    ∙ list_any-append (is_that_offer seat sale) offers (cons_option said [])
    ∙ ap (λ flag. is_among seat sale offers || flag) (one_said seat sale said ∙ says)
    ∙ sym
    (ap (λ begins. if begins then false else (is_among seat sale offers
    || is_some (said_by seat (offered_in sale) (obeyed_of event)))) quiet)

-- and the offers of the round once it is recorded
pub offers_applied :
    (events : List Event) (event : Event) (offers longer : List (Seat × Offer)) →
    ((seat : Seat) (sale : Offer) → is_among seat sale longer
    ≡ flag_then event (is_some (said_by seat (offered_in sale) (obeyed_of event))) (is_among seat sale offers)) →
    AreOffersOf offers events → AreOffersOf longer (events ++ event ∷ [])
offers_applied events event offers longer applied before = λ seat sale.
    round_flag_applied (λ e. said_by seat (offered_in sale) (obeyed_of e)) events event _ _ (applied seat sale)
    (before seat sale)
