-- The new events of a line of a stock turn say who acted in it.
use Rattle.std.proofs.Common.{◌≡◌, ℕ, Bool, true, false, ◌||◌, Option, None, refl, sym}
use Rattle.std.specs.Prelude.{is_some}
use Rattle.std.proofs.Math.Bool.{or-true, or-false}
use Rattle.events.specs.declared.event.Event.{Event}
use Rattle.events.specs.declared.event.Event.TheVariants as event
use Rattle.events.specs.declared.ruling.Ruling.TheVariants.{Obeyed}
use Rattle.order_grammar.specs.declared.condition.Condition.{Condition}
use Rattle.order_grammar.specs.declared.order.Order.{Order}
use Rattle.order_grammar.specs.declared.order.Order.TheVariants as order
use Rattle.order_grammar.specs.declared.play.PlayOrder.TheVariants as play
use Rattle.sheets.specs.Part.{Numbered}
use Rattle.stock_round.proofs.BuyLemmas.{in_purchase}
use Rattle.stock_round.proofs.ExchangeLemmas.{in_exchange}
use Rattle.stock_round.proofs.ParLemmas.{in_start}
use Rattle.stock_round.proofs.SellLemmas.{in_sale}
use Rattle.stock_round.specs.Buy.{after_purchase}
use Rattle.stock_round.specs.Exchange.{after_exchange}
use Rattle.stock_round.specs.Orders.{stock_refusal}
use Rattle.stock_round.specs.Par.{after_start}
use Rattle.stock_round.specs.Sell.{after_sale}
use Rattle.stock_round.specs.Turn.{InStockTurn, after_stock_ruling, game_in, stock_rules, turn_after_stock_order}
use Rattle.tables.specs.declared.seat.Seat.{Seat}
use Rattle.turns.proofs.Acted.{LineSaysWhoActed, in_both, nobody_ruled, one_more, turns_say}
use Rattle.turns.proofs.Ruled.{of_ruled}
use Rattle.turns.specs.Acted.{TurnsSayWhoActed}
use Rattle.turns.specs.Ruling.{has_place_in_turn}
use Rattle.totals.specs.LookBack.{Game, with_event}

-- who has sold has acted
has_sold : (before sold : Bool) → (before || true) ≡ ((before || sold) || true)
has_sold true sold = refl
has_sold false true = refl
has_sold false false = refl

-- by a line whose order is done
order_says : (seats : ℕ) (seat : Seat) (turn : InStockTurn) (number : ℕ) (condition : Option Condition) (done : Order)
    → stock_refusal (game_in seats turn) seat turn.actions.bought done ≡ None →
    LineSaysWhoActed stock_rules seat turn (after_stock_ruling seats seat turn number (Obeyed condition done))
order_says seats seat turn number condition (order.Play (play.Par company price)) kept =
    let line : Event = event.Ruled seat number (Obeyed condition (order.Play (play.Par company price))) in
    let ruled : Game = with_event (game_in seats turn) line in
    record {
      acts = true;
      says_who = in_both seat false true turn.events ruled.events (after_start ruled seat company price).events
          (one_more seat false turn.events line refl) (in_start ruled seat company price);
      acted = sym (or-true (is_some turn.actions.bought || turn.actions.sold));
    }
order_says seats seat turn number condition (order.Play (play.BuyShare company from)) kept =
    let line : Event = event.Ruled seat number (Obeyed condition (order.Play (play.BuyShare company from))) in
    let ruled : Game = with_event (game_in seats turn) line in
    record {
      acts = true;
      says_who = in_both seat false true turn.events ruled.events (after_purchase ruled seat company from).events
          (one_more seat false turn.events line refl) (in_purchase ruled seat company from);
      acted = sym (or-true (is_some turn.actions.bought || turn.actions.sold));
    }
order_says seats seat turn number condition (order.Play (play.Sell company shares)) kept =
    let line : Event = event.Ruled seat number (Obeyed condition (order.Play (play.Sell company shares))) in
    let ruled : Game = with_event (game_in seats turn) line in
    record {
      acts = true;
      says_who = in_both seat true false turn.events ruled.events (after_sale ruled seat company shares).events
          (one_more seat true turn.events line refl) (in_sale ruled seat company shares);
      acted = has_sold (is_some turn.actions.bought) turn.actions.sold;
    }
order_says seats seat turn number condition (order.Play play.ExchangeMohawk) kept =
    let line : Event = event.Ruled seat number (Obeyed condition (order.Play play.ExchangeMohawk)) in
    let ruled : Game = with_event (game_in seats turn) line in
    record {
      acts = false;
      says_who = in_both seat false false turn.events ruled.events (after_exchange ruled seat).events
          (one_more seat false turn.events line refl) (in_exchange ruled seat);
      acted = sym (or-false (is_some turn.actions.bought || turn.actions.sold));
    }
order_says seats seat turn number condition other kept = absurd (cc)

-- so each turn of a stock round says who acted in it
pub stock_turns_say : TurnsSayWhoActed stock_rules
stock_turns_say =
    turns_say stock_rules refl
    (λ (seats : ℕ) (seat : Seat) (turn : InStockTurn) (line : Numbered).
    of_ruled (turn_after_stock_order seats seat) (stock_refusal (game_in seats turn) seat turn.actions.bought) seat turn line.number
    (LineSaysWhoActed stock_rules seat turn)
    (nobody_ruled stock_rules seat turn line.number) (order_says seats seat turn line.number) has_place_in_turn
    turn.events line)
