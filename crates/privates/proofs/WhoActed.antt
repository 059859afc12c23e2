-- The new events of a line of an opening turn say who acted in it.
use Rattle.std.proofs.Common.{◌≡◌, ℕ, true, false, List, [], ◌∷◌, ◌++◌, Option, Some, None, refl, sym}
use Rattle.std.proofs.Math.Bool.{or-true}
use Rattle.events.specs.Event.{actor_of}
use Rattle.events.specs.declared.event.Bid.{Bid}
use Rattle.events.specs.declared.event.Event.{Event}
use Rattle.events.specs.declared.event.Event.TheVariants as event
use Rattle.events.specs.declared.ruling.Ruling.TheVariants.{Obeyed}
use Rattle.totals.specs.Bids.{bids_on}
use Rattle.totals.specs.LookBack.{cheapest_of, last_said}
use Rattle.order_grammar.specs.declared.condition.Condition.{Condition}
use Rattle.order_grammar.specs.declared.order.Order.{Order}
use Rattle.order_grammar.specs.declared.order.Order.TheVariants as order
use Rattle.order_grammar.specs.declared.play.PlayOrder.TheVariants as play
use Rattle.privates.specs.Bank.{price_of_private}
use Rattle.privates.specs.Sale.{after_private_sale, gifts, settle_auctions, settled, settled_by, settled_of}
use Rattle.privates.specs.Turn.{InOpeningTurn, after_opening_ruling, opening_refusal, opening_rules}
use Rattle.privates.specs.Turn.{turn_after_opening_order}
use Rattle.sheets.specs.Part.{Numbered}
use Rattle.tables.specs.declared.roster.Private.{Private}
use Rattle.tables.specs.declared.roster.Private.TheVariants as private
use Rattle.tables.specs.declared.seat.Seat.{Seat}
use Rattle.turns.proofs.Acted.{LineSaysWhoActed, in_both, nobody, nobody_in_steps, nobody_ruled, one_more, turns_say}
use Rattle.turns.proofs.Ruled.{of_ruled}
use Rattle.turns.specs.Acted.{SaysWhoActed, TurnsSayWhoActed}
use Rattle.turns.specs.Ruling.{has_place_in_turn, recorded}

-- nobody acts by what comes with a sale
no_giver : (events : List Event) (private : Private) (buyer : Seat)
    → last_said actor_of (gifts events private buyer) ≡ None
no_giver events private.SchuylkillValley buyer = refl
no_giver events private.ChamplainStLawrence buyer = refl
no_giver events private.DelawareHudson buyer = refl
no_giver events private.MohawkHudson buyer = refl
no_giver events private.CamdenAmboy buyer = refl
no_giver events private.BaltimoreOhio buyer = refl

-- nor by the sale itself, since its line has recorded it
in_sale : (seat : Seat) (events : List Event) (private : Private) (buyer : Seat) (price : ℕ) →
    SaysWhoActed seat false events (after_private_sale events private buyer price)
in_sale seat events private buyer price =
    record {
      more = event.Sold private buyer price ∷ gifts events private buyer;
      longer = refl;
      last =
          rw (no_giver events private buyer) refl;
    }

-- nor by the sale that follows from the bids on a private
in_bids : (seat : Seat) (seats : ℕ) (events : List Event) (private : Private) (bids : List Bid) →
    SaysWhoActed seat false events (settled_by seats events private bids)
in_bids seat seats events private [] = nobody seat events
in_bids seat seats events private (bid ∷ []) = in_sale seat events private bid.seat bid.amount
in_bids seat seats events private (bid ∷ other ∷ bids) = in_sale seat events private _ _

-- nor by that of the cheapest private
in_cheapest : (seat : Seat) (seats : ℕ) (events : List Event) (cheapest : Option Private)
    → SaysWhoActed seat false events (settled_of seats events cheapest)
in_cheapest seat seats events None = nobody seat events
in_cheapest seat seats events (Some private) = in_bids seat seats events private (bids_on seats events private)

-- nor by the sales that follow from a sale
in_settled : (seat : Seat) (seats : ℕ) (events : List Event) → SaysWhoActed seat false events (settled seats events)
unfolding settled
in_settled seat seats events = nobody_in_steps seat (settle_auctions seats)
    (λ list. in_cheapest seat seats list (cheapest_of list)) 6 events

-- by a line whose order is done
order_says : (seats : ℕ) (seat : Seat) (turn : InOpeningTurn) (number : ℕ) (condition : Option Condition) (done : Order)
    → opening_refusal seats turn.events seat turn.actions done ≡ None →
    LineSaysWhoActed opening_rules seat turn (after_opening_ruling seats seat turn number (Obeyed condition done))
order_says seats seat turn number condition (order.Play (play.BuyPrivate private)) kept =
    let ruled : List Event = recorded seat number (Obeyed condition (order.Play (play.BuyPrivate private))) turn.events in
    let sold : List Event = after_private_sale ruled private seat (price_of_private ruled private) in
    record {
      acts = true;
      says_who =
          in_both seat true false turn.events ruled (settled seats sold)
          (one_more seat true turn.events (event.Ruled seat number (Obeyed condition (order.Play (play.BuyPrivate private))))
          refl)
          (in_both seat false false ruled sold (settled seats sold)
          (in_sale seat ruled private seat (price_of_private ruled private)) (in_settled seat seats sold));
      acted = sym (or-true turn.actions);
    }
order_says seats seat turn number condition (order.Play (play.Bid private amount)) kept =
    let ruled : List Event = recorded seat number (Obeyed condition (order.Play (play.Bid private amount))) turn.events in
    record {
      acts = true;
      says_who =
          in_both seat true false turn.events ruled (ruled ++ event.Bids private seat amount ∷ [])
          (one_more seat true turn.events (event.Ruled seat number (Obeyed condition (order.Play (play.Bid private amount))))
          refl)
          (one_more seat false ruled (event.Bids private seat amount) refl);
      acted = sym (or-true turn.actions);
    }
order_says seats seat turn number condition other kept = absurd (cc)

-- so each turn of an opening round says who acted in it
pub opening_turns_say : TurnsSayWhoActed opening_rules
opening_turns_say =
    turns_say opening_rules refl
    (λ (seats : ℕ) (seat : Seat) (turn : InOpeningTurn) (line : Numbered).
    of_ruled (turn_after_opening_order seats seat) (opening_refusal seats turn.events seat turn.actions) seat turn line.number
    (LineSaysWhoActed opening_rules seat turn)
    (nobody_ruled opening_rules seat turn line.number) (order_says seats seat turn line.number) has_place_in_turn
    turn.events line)
