-- The rules of the purchase of a train say the same after a ruling, so a line that breaks none
-- leads where its purchase does.
use Rattle.std.proofs.Common.{◌≡◌, ◌+◌, Bool, true, false, not, ◌==◌, if◌then◌else◌, is_some, ◌||◌}
use Rattle.std.proofs.Common.{List, [], ◌∷◌, ◌++◌, Option, Some, None, unwrap_or, refl}
use Rattle.std.proofs.Common.{ap, ◌∙◌}
use Rattle.std.specs.Option.{option_flatten, option_map}
use Rattle.events.specs.Event.{obeyed_of, party_of_company, phase_set}
use Rattle.events.specs.Offers.{offered_in}
use Rattle.events.specs.Orders.{said_by}
use Rattle.events.specs.declared.event.Event.{Event}
use Rattle.events.specs.declared.event.Event.TheVariants.{Ruled}
use Rattle.events.specs.declared.event.TrainSeller.{TrainSeller}
use Rattle.events.specs.declared.event.TrainSeller.TheVariants as seller
use Rattle.events.specs.declared.ruling.Ruling.{Ruling}
use Rattle.events.specs.declared.ruling.Ruling.TheVariants.{Obeyed}
use Rattle.totals.proofs.EventAtEnd.{cash_of_before, last_said_before, president_of_before}
use Rattle.totals.specs.LookBack.{Game, in_round, with_event}
use Rattle.totals.specs.Offers.{has_consent}
use Rattle.totals.specs.Shares.{president_of}
use Rattle.totals.specs.Trains.{phase_of}
use Rattle.purchases.specs.Train.{is_not_given}
use Rattle.purchases.specs.Train.{presidents_agree, train_judgement}
use Rattle.purchases.specs.Train.{train_purchase_cost, train_purchase_rules}
use Rattle.purchases.specs.declared.train.TrainPurchase.{TrainPurchase}
use Rattle.purchases.proofs.TrainsAlike.{AreTrainsAlike, alike_at_end, same_full, same_sale, same_seller, same_trade}
use Rattle.order_grammar.specs.declared.order.Offer.{Offer}
use Rattle.order_grammar.specs.declared.order.Offer.TheVariants as offer
use Rattle.order_grammar.specs.declared.order.Order.TheVariants.{Play}
use Rattle.order_grammar.specs.declared.order.TrainSource.{TrainSource}
use Rattle.order_grammar.specs.declared.play.PlayOrder.TheVariants.{BuyTrain}
use Rattle.sheets.specs.Part.{Numbered}
use Rattle.tables.specs.Rules.{first_broken}
use Rattle.tables.specs.declared.rolling_stock.Kind.{Kind}
use Rattle.tables.specs.declared.rolling_stock.Kind.TheVariants.{Two}
use Rattle.tables.specs.declared.roster.Company.{Company}
use Rattle.tables.specs.declared.seat.Seat.{Seat}

module _ (events : List Event) (seat : Seat) (line : Numbered) (ruling : Ruling) where
  -- the list with the ruling
  abbrev after : List Event
  after = events ++ Ruled seat line.number ruling ∷ []

  -- the phase is the same
  phase_stays : phase_of after ≡ phase_of events
  phase_stays =
      ap (λ (said : Option Kind). unwrap_or said Two)
      (last_said_before phase_set after events (Ruled seat line.number ruling) refl refl)

  -- the same presides
  same_president : (company : Company) → president_of after company ≡ president_of events company
  same_president company = president_of_before events (Ruled seat line.number ruling) company refl

module _ (events : List Event) (seat : Seat) (line : Numbered) (kind : Kind) (from : TrainSource) where
  -- the ruling of a line TRAIN that is obeyed
  abbrev obeyed : Event
  obeyed = Ruled seat line.number (Obeyed line.condition (Play (BuyTrain kind from)))

  -- it offers nothing
  offers_none : (giver : Seat) (sale : Offer) → in_round (λ its. said_by giver (offered_in sale) (obeyed_of its))
      obeyed ≡ None
  offers_none giver sale =
      elim (seat.0 == giver.0) as (λ (b : Bool). option_map {T = Offer} Some (if b then None else None) ≡ None) [
        | true ↦ refl
        | false ↦ refl
      ]

  -- so the same consent
  same_consent : (giver taker : Seat) (sale : Offer)
      → has_consent (events ++ obeyed ∷ []) giver taker sale ≡ has_consent events giver taker sale
  same_consent giver taker sale =
      ap (λ (said : Option (Option Offer)). giver.0 == taker.0 || is_some (option_flatten said))
      (last_said_before (in_round (λ its. said_by giver (offered_in sale) (obeyed_of its))) (events ++ obeyed ∷ [])
      events obeyed refl (offers_none giver sale))

  same_agreement : (giver taker : Option Seat) (sale : Offer) →
      presidents_agree (events ++ obeyed ∷ []) giver taker sale ≡ presidents_agree events giver taker sale
  same_agreement (Some giver) (Some taker) sale = same_consent giver taker sale
  same_agreement (Some giver) None sale = refl
  same_agreement None taker sale = refl

  -- and the same lacks it
  same_lack : (buyer : Company) (purchase : TrainPurchase) (of : TrainSeller) →
      is_not_given (events ++ obeyed ∷ []) buyer purchase of ≡ is_not_given events buyer purchase of
  same_lack buyer purchase seller.Bank = refl
  same_lack buyer purchase seller.BankPool = refl
  same_lack buyer purchase (seller.Company company) =
      let sale : Offer = offer.Train purchase.kind company buyer (train_purchase_cost purchase) in
      let ruling : Ruling = Obeyed line.condition (Play (BuyTrain kind from)) in
      ap (λ (agree : Bool). train_purchase_cost purchase == 0 || not agree)
      (same_agreement (president_of (events ++ obeyed ∷ []) company) (president_of (events ++ obeyed ∷ []) buyer) sale
      ∙ ap (λ (giver : Option Seat). presidents_agree events giver (president_of (events ++ obeyed ∷ []) buyer) sale)
      (same_president events seat line ruling company)
      ∙ ap (λ (taker : Option Seat). presidents_agree events (president_of events company) taker sale)
      (same_president events seat line ruling buyer))

-- the rules say the same
pub same_judgement : (game ruled : Game) (seat : Seat) (line : Numbered) (kind : Kind) (from : TrainSource)
    (company : Company) (purchase : TrainPurchase) →
    ruled ≡ with_event game (Ruled seat line.number (Obeyed line.condition (Play (BuyTrain kind from)))) →
    train_judgement ruled company purchase ≡ train_judgement game company purchase
same_judgement game ruled seat line kind from company purchase is =
    let events = game.events in
    let ruling : Ruling = Obeyed line.condition (Play (BuyTrain kind from)) in
    let its : Event = Ruled seat line.number ruling in
    let alike : AreTrainsAlike events (events ++ its ∷ []) = alike_at_end events its refl in
    let same : train_purchase_rules (with_event game its) company purchase ≡ train_purchase_rules game company purchase =
    cc (
      same_sale alike purchase.from purchase.kind,
      same_full alike company purchase.trade_in (phase_stays events seat line ruling),
      cash_of_before game.seats events its (party_of_company company) refl,
      same_lack events seat line kind from company purchase purchase.from,
      same_seller alike company purchase.kind purchase.from,
      same_trade alike company purchase.kind purchase.trade_in,
    ) in
    ap (λ (g : Game). train_judgement g company purchase) is ∙ ap first_broken same
