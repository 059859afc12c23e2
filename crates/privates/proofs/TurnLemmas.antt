-- An order of a turn that breaks no rule can be done, and still can after an event that changes
-- nothing of what parties have and own.
use Rattle.std.proofs.Common.{◌≡◌, ℕ, Bool, List, [], ◌∷◌, ◌++◌, None, sym, subst}
use Rattle.events.specs.Event.{IsQuiet}
use Rattle.events.specs.declared.event.Event.{Event}
use Rattle.totals.proofs.EventAtEnd.{quiet_same}
use Rattle.totals.specs.AtEnd.{SaysTheSame}
use Rattle.totals.specs.LookBack.{Game, with_event}
use Rattle.order_grammar.specs.declared.order.Order.{Order}
use Rattle.order_grammar.specs.declared.order.Order.TheVariants.{Play}
use Rattle.order_grammar.specs.declared.play.PlayOrder.TheVariants.{BuyPrivate, Bid}
use Rattle.privates.proofs.BankLemmas.{same_pay, same_price}
use Rattle.privates.proofs.BidLemmas.{may_bid, near_after, still_may_bid}
use Rattle.privates.proofs.BuyLemmas.{may_buy}
use Rattle.privates.specs.Bank.{price_of_private}
use Rattle.privates.specs.Bid.{is_near_some}
use Rattle.privates.specs.Turn.{MayAct, opening_judgement}
use Rattle.tables.specs.declared.roster.Private.{Private}
use Rattle.tables.specs.declared.seat.Seat.{Seat}

-- an order that breaks no rule can be done
may_act : (seats : ℕ) (events : List Event) (seat : Seat) (used : Bool) (order : Order)
    → opening_judgement seats events seat used order ≡ None → MayAct seats events seat order
may_act seats events seat used (Play (BuyPrivate private)) none = may_buy seats events seat used private none
may_act seats events seat used (Play (Bid private amount)) none = may_bid seats events seat used private amount none
may_act seats events seat used other none = tt

-- an order can still be done where a list says the same
still_may : (seats : ℕ) (before after : List Event) (seat : Seat) (order : Order) → SaysTheSame before after
    → ((private : Private) (amount : ℕ) → is_near_some amount after private ≡ is_near_some amount before private)
    → MayAct seats before seat order → MayAct seats after seat order
still_may seats before after seat (Play (BuyPrivate private)) same near may =
    same_pay seats before after seat private (price_of_private before private) (price_of_private after private) same
    (same_price before after private same) may
still_may seats before after seat (Play (Bid private amount)) same near may =
    still_may_bid seats before after seat private amount same (near private amount) may
still_may seats before after seat other same near may = tt

-- an order that breaks no rule can be done after its ruling
pub may_act_after : (old new : Game) (event : Event) (seat : Seat) (used : Bool) (order : Order)
    → new ≡ with_event old event → IsQuiet event → opening_judgement old.seats old.events seat used order ≡ None
    → MayAct new.seats new.events seat order
may_act_after old new event seat used order recorded quiet none =
    subst (λ (game : Game). MayAct game.seats game.events seat order) (sym recorded)
    (still_may old.seats old.events (old.events ++ event ∷ []) seat order (quiet_same old.events event quiet)
    (λ private amount. near_after private amount old.events event quiet)
    (may_act old.seats old.events seat used order none))
