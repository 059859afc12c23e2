-- An opening round, event by event. A private is sold while it is unsold, a bid is made by a seat
-- that takes a turn, and what else is recorded is still. What holds of each such event, and of one
-- after the other, holds of the round.
use Rattle.std.proofs.Common.{◌≡◌, ℕ, zero, suc, ◌-◌, ◌==◌, Bool, true, false, if◌then◌else◌, List}
use Rattle.std.proofs.Common.{[], ◌∷◌, ◌++◌, Option, Some, None, rules, refl, sym, subst, ap, ◌∙◌}
use Rattle.std.proofs.Common.{arith}
use Rattle.std.proofs.lemmas.List.{append_assoc}
use Rattle.std.specs.List.{list_all}
use Rattle.events.specs.Event.{IsQuiet, order_obeyed}
use Rattle.events.specs.declared.event.Bid.{Bid}
use Rattle.events.specs.declared.event.Event.{Event}
use Rattle.events.specs.declared.event.Event.TheVariants as event
use Rattle.events.specs.declared.ruling.Refusal.TheVariants.{Opening}
use Rattle.events.specs.declared.ruling.Ruling.{Ruling}
use Rattle.events.specs.declared.ruling.Ruling.TheVariants.{Obeyed}
use Rattle.totals.proofs.EventAtEnd.{is_sold_before}
use Rattle.totals.specs.Bids.{bids_on}
use Rattle.totals.specs.LookBack.{Game, cheapest_of, is_sold, priority_of, sv_price_of}
use Rattle.history.specs.Record.{after_revenues}
use Rattle.order_grammar.specs.declared.condition.Condition.{Condition}
use Rattle.order_grammar.specs.declared.order.Order.{Order}
use Rattle.order_grammar.specs.declared.order.Order.TheVariants as order
use Rattle.order_grammar.specs.declared.play.PlayOrder.TheVariants as play
use Rattle.privates.proofs.TurnLemmas.{may_act_after}
use Rattle.privates.proofs.StandingBids.{cheapest_unsold}
use Rattle.privates.specs.Closing.{after_fall, after_passing, all_sold, given_away, opening_round_closed}
use Rattle.privates.specs.Bank.{price_of_private}
use Rattle.privates.specs.Opening.{IsOpeningRound}
use Rattle.privates.specs.Standing.{opening_standing_ruling}
use Rattle.privates.specs.Sale.{after_private_sale, gifts, settle_auctions, settled, settled_by, settled_of}
use Rattle.privates.specs.Turn.{InOpeningTurn, after_opening_line, after_opening_order}
use Rattle.privates.specs.Turn.{opening_judgement, opening_refusal, opening_rules}
use Rattle.privates.specs.Turn.{turn_after_opening_order}
use Rattle.rounds.proofs.Growing.{GrowsPlainly, and_plain, is_still, over_growth, revenues_grow}
use Rattle.sheets.specs.Part.{Numbered}
use Rattle.tables.specs.Roster.{privates}
use Rattle.tables.specs.Steps.{iterate}
use Rattle.tables.specs.declared.roster.Private.{Private}
use Rattle.tables.specs.declared.roster.Private.TheVariants as private
use Rattle.tables.specs.declared.seat.Seat.{Seat}
use Rattle.tables.specs.declared.round.Round.{Round}
use Rattle.turns.proofs.RoundLeads.{round_leads}
use Rattle.turns.proofs.Ruled.{none_as_refusal, of_ruled}
use Rattle.turns.specs.Ruling.{has_place_in_turn}

-- what is to be shown so that it holds of the parts of an opening round in which these seats take
-- turns, and these privates are sold
pub record OfOpening (Sits : Seat → Type 0) (Sells : List Event → Private → Type 0)
    (R : List Event → List Event → Type 0) : Type 0 where
  pub same : (events : List Event) → R events events
  pub both : (a b c : List Event) → R a b → R b c → R a c
  pub quiet : (events : List Event) (its : Event) → and_plain is_still its ≡ true → R events
      (events ++ its ∷ [])
  pub unsold : (events : List Event) (private : Private) → is_sold events private ≡ false → Sells
      events private
  pub sold : (events : List Event) (private : Private) (buyer : Seat) (price : ℕ) → Sells events
      private →
      R events (events ++ event.Sold private buyer price ∷ [])
  pub bids : (events : List Event) (private : Private) (seat : Seat) (amount : ℕ) → Sits seat →
      R events (events ++ event.Bids private seat amount ∷ [])

-- whoever sits, and whatever is sold
abbrev pub AnySeat : Seat → Type 0
AnySeat seat = Unit

abbrev pub AnyPrivate : List Event → Private → Type 0
AnyPrivate events private = Unit

-- what comes with a sale is still
gifts_still : (events : List Event) (private : Private) (buyer : Seat) →
    list_all (and_plain is_still) (gifts events private buyer) ≡ true
gifts_still events private buyer = grind arith

-- a ruling says nothing of what parties have and own
ruling_quiet : (seat : Seat) (number : ℕ) (ruling : Ruling) → IsQuiet (event.Ruled seat number ruling)
ruling_quiet seat number ruling = search rules

-- so a private that may be bought is unsold after it
still_unsold : (seats : ℕ) (seat : Seat) (turn : InOpeningTurn) (number : ℕ) (ruling : Ruling)
    (private : Private) →
    opening_refusal seats turn.events seat turn.actions (order.Play (play.BuyPrivate private)) ≡ None →
    is_sold (turn.events ++ event.Ruled seat number ruling ∷ []) private ≡ false
still_unsold seats seat turn number ruling private kept =
    let its : Event = event.Ruled seat number ruling in
    (may_act_after (record { seats = seats; events = turn.events })
    (record { seats = seats; events = turn.events ++ its ∷ [] }) its seat turn.actions
    (order.Play (play.BuyPrivate private)) refl
    (ruling_quiet seat number ruling)
    (none_as_refusal Opening (opening_judgement seats turn.events seat turn.actions (order.Play (play.BuyPrivate
    private))) kept)).unsold

module _ (Sits : Seat → Type 0) (Sells : List Event → Private → Type 0) (R : List Event →
    List Event → Type 0)
    (of : OfOpening Sits Sells R) where
  -- of a list that grows by events that are still
  of_growing_still : (old new : List Event) → GrowsPlainly is_still old new → R old new
  of_growing_still = over_growth (and_plain is_still) R of.same of.both of.quiet

  -- of a sale
  of_sale : (events : List Event) (private : Private) (buyer : Seat) (price : ℕ) → Sells events
      private →
      R events (after_private_sale events private buyer price)
  of_sale events private buyer price sells =
      let its : Event = event.Sold private buyer price in
      let next : List Event = events ++ its ∷ [] in
      let more : List Event = gifts events private buyer in
      subst (R events) (append_assoc events (its ∷ []) more)
      (of.both events next (next ++ more) (of.sold events private buyer price sells)
      (of_growing_still next (next ++ more)
      (record { more = more; longer = refl; aside = gifts_still events private buyer })))

  -- of the sale that follows from the bids on a private
  of_bids : (seats : ℕ) (events : List Event) (private : Private) (bids : List Bid) → Sells events
      private →
      R events (settled_by seats events private bids)
  of_bids seats events private [] sells = of.same events
  of_bids seats events private (bid ∷ []) sells = of_sale events private bid.seat bid.amount sells
  of_bids seats events private (bid ∷ other ∷ bids) sells = of_sale events private _ _ sells

  -- of that of the cheapest private
  of_cheapest : (seats : ℕ) (events : List Event) (cheapest : Option Private) → cheapest_of events ≡ cheapest →
      R events (settled_of seats events cheapest)
  of_cheapest seats events None is = of.same events
  of_cheapest seats events (Some private) is =
      of_bids seats events private (bids_on seats events private)
      (of.unsold events private (cheapest_unsold events private is))

  -- of some of these
  of_steps : (seats n : ℕ) (events : List Event) → R events (iterate (settle_auctions seats) n events)
  of_steps seats zero events = of.same events
  of_steps seats (suc n) events =
      let there : List Event = iterate (settle_auctions seats) n events in
      of.both events there (settle_auctions seats there) (of_steps seats n events)
      (of_cheapest seats there (cheapest_of there) refl)

  -- of a sale, and of those that follow from it
  of_sales : (seats : ℕ) (events : List Event) (private : Private) (buyer : Seat) (price : ℕ) →
      Sells events private → R events (settled seats (after_private_sale events private buyer price))
  unfolding settled
  of_sales seats events private buyer price sells =
      let sold : List Event = after_private_sale events private buyer price in
      of.both events sold (settled seats sold) (of_sale events private buyer price sells)
      (of_steps seats 6 sold)

  -- of what follows from an order that is done
  pub of_act : (seats : ℕ) (seat : Seat) (events : List Event) (done : Order) → Sits seat →
      ((private : Private) → done ≡ order.Play (play.BuyPrivate private) → Sells events private) →
      R events (after_opening_order seats seat events done)
  of_act seats seat events (order.Play (play.BuyPrivate private)) sits sells =
      of_sales seats events private seat (price_of_private events private) (sells private refl)
  of_act seats seat events (order.Play (play.Bid private amount)) sits sells = of.bids events private seat
      amount sits
  of_act seats seat events other sits sells = of.same events

  -- of a line
  pub of_line :
      ((events : List Event) (seat : Seat) (number : ℕ) (ruling : Ruling) →
      R events (events ++ event.Ruled seat number ruling ∷ [])) →
      (seats : ℕ) (seat : Seat) (turn : InOpeningTurn) (line : Numbered) → Sits seat →
      R turn.events (after_opening_line seats seat turn line).events
  of_line rulings seats seat turn line sits =
      of_ruled (turn_after_opening_order seats seat) (opening_refusal seats turn.events seat turn.actions) seat turn line.number
      (λ (after : InOpeningTurn). R turn.events after.events)
      (λ (ruling : Ruling) (none : order_obeyed ruling ≡ None). rulings turn.events seat line.number
      ruling)
      (λ (condition : Option Condition) (done : Order)
      (kept : opening_refusal seats turn.events seat turn.actions done ≡ None).
      let ruling : Ruling = Obeyed condition done in
      let ruled : List Event = turn.events ++ event.Ruled seat line.number ruling ∷ [] in
      of.both turn.events ruled (after_opening_order seats seat ruled done) (rulings turn.events seat
      line.number ruling)
      (of_act seats seat ruled done sits
      (λ private is. of.unsold ruled private (still_unsold seats seat turn line.number ruling
      private
      (ap (opening_refusal seats turn.events seat turn.actions) (sym is) ∙ kept)))))
      has_place_in_turn turn.events line

  -- of the fall of SV's price
  of_fall : (seats : ℕ) (events : List Event) (price : ℕ) (holder : Seat) →
      is_sold events private.SchuylkillValley ≡ false →
      R events (after_fall seats events price holder)
  of_fall seats events price holder unsold =
      let fallen : List Event = events ++ event.Price 0 ∷ [] in
      elim (price == 0) as (λ (b : Bool). R events
      (if b then settled seats (given_away events holder) else events ++ event.Price price ∷ [])) [
        | true ↦ of.both events fallen (settled seats (given_away events holder)) (of.quiet events
            (event.Price 0) refl)
            (of_sales seats fallen private.SchuylkillValley holder 0 (of.unsold fallen
            private.SchuylkillValley
            (is_sold_before events (event.Price 0) private.SchuylkillValley refl ∙ unsold)))
        | false ↦ of.quiet events (event.Price price) refl
      ]

  -- of what follows where all have passed
  of_passing : (seats : ℕ) (events : List Event) (sold : Bool) → is_sold events private.SchuylkillValley ≡ sold →
      R events (if sold then after_revenues seats events privates else after_fall seats events
      (sv_price_of events - 5) (priority_of seats events))
  of_passing seats events true is =
      of_growing_still events (after_revenues seats events privates) (revenues_grow seats events
      privates)
  of_passing seats events false is = of_fall seats events (sv_price_of events - 5) (priority_of seats events) is

  -- of the close
  pub of_close : (seats : ℕ) (events : List Event) → R events (opening_round_closed seats events)
  of_close seats events =
      elim (all_sold events) as (λ (b : Bool). R events (if b then events else after_passing seats events)) [
        | true ↦ of.same events
        | false ↦ of_passing seats events (is_sold events private.SchuylkillValley) refl
      ]

  -- so of an opening round that has begun, where each seat may sit
  pub of_opening :
      ((events : List Event) (seat : Seat) (number : ℕ) (ruling : Ruling) →
      R events (events ++ event.Ruled seat number ruling ∷ [])) →
      ((seat : Seat) → Sits seat) → (file : List ℕ) (round : Round) (old new : Game) →
      IsOpeningRound file round old new → R (old.events ++ event.Round round ∷ []) new.events
  of_opening rulings sit =
      round_leads opening_rules R
      (record {
        stays = of.same;
        further = of.both;
        standing = λ seat events line. rulings events seat line.number (opening_standing_ruling events
            line);
        line = λ seats seat turn line. of_line rulings seats seat turn line (sit seat);
        passes = λ events seat. of.quiet events (event.Passes seat) refl;
        closed = of_close;
        leaves = λ events seat lines. of.quiet events (event.Left seat lines) refl;
      })
