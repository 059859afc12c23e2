-- An order that breaks no rule can be done, and still can after an event that changes nothing of
-- what parties have and own.
use Rattle.std.proofs.Common.{◌≡◌, List, [], ◌∷◌, ◌++◌, Option, None, sym, subst, ◌∙◌}
use Rattle.certs.proofs.SaleAllowed.{sale_allowed, still_may_sell}
use Rattle.events.specs.Event.{IsQuiet}
use Rattle.events.specs.declared.event.Event.{Event}
use Rattle.totals.proofs.EventAtEnd.{quiet_same}
use Rattle.totals.specs.AtEnd.{SaysTheSame}
use Rattle.totals.specs.LookBack.{Game, with_event, with_events}
use Rattle.order_grammar.specs.declared.order.Order.{Order}
use Rattle.order_grammar.specs.declared.order.Order.TheVariants.{Play}
use Rattle.order_grammar.specs.declared.play.PlayOrder.TheVariants.{Par, BuyShare, Sell, ExchangeMohawk}
use Rattle.stock_round.proofs.BuyLemmas.{purchase_allowed, still_may_buy}
use Rattle.stock_round.proofs.ExchangeLemmas.{exchange_allowed, same_exchange}
use Rattle.stock_round.proofs.ParLemmas.{start_allowed, still_may_start}
use Rattle.stock_round.specs.Orders.{MayAct, stock_judgement}
use Rattle.stock_round.specs.Sell.{sale_of}
use Rattle.tables.specs.declared.roster.Company.{Company}
use Rattle.tables.specs.declared.seat.Seat.{Seat}

-- an order that breaks no rule can be done
may_act : (game : Game) (seat : Seat) (bought : Option Company) (order : Order)
    → stock_judgement game seat bought order ≡ None → MayAct game seat order
may_act game seat bought (Play (Par company price)) none = start_allowed game seat company price bought none
may_act game seat bought (Play (BuyShare company from)) none = purchase_allowed game seat company from bought none
may_act game seat bought (Play (Sell company shares)) none = sale_allowed game seat (sale_of company shares) None none
may_act game seat bought (Play ExchangeMohawk) none = exchange_allowed game seat none
may_act game seat bought other none = tt

-- an order can still be done where a list says the same
still_may : (game : Game) (after : List Event) (seat : Seat) (order : Order) → SaysTheSame game.events after
    → MayAct game seat order → MayAct (with_events game after) seat order
still_may game after seat (Play (Par company price)) same may = still_may_start game after seat company price same may
still_may game after seat (Play (BuyShare company from)) same may = still_may_buy game after seat company from same may
still_may game after seat (Play (Sell company shares)) same may =
    still_may_sell game after seat (sale_of company shares) same may
still_may game after seat (Play ExchangeMohawk) same may = same_exchange game.events after seat same ∙ may
still_may game after seat other same may = tt

-- an order that breaks no rule can be done after its ruling
pub may_act_after : (old new : Game) (event : Event) (seat : Seat) (bought : Option Company) (order : Order)
    → new ≡ with_event old event → IsQuiet event → stock_judgement old seat bought order ≡ None
    → MayAct new seat order
may_act_after old new event seat bought order recorded quiet none =
    subst (λ (game : Game). MayAct game seat order) (sym recorded)
    (still_may old (old.events ++ event ∷ []) seat order (quiet_same old.events event quiet)
    (may_act old seat bought order none))
