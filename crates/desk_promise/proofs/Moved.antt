-- What an order of a turn moves right after its line, as its row tells.
use Rattle.std.proofs.Common.{◌≡◌, ℕ, ◌*◌, Bool, List, [], ◌∷◌, ◌++◌, Option, None, pos, unwrap_or}
use Rattle.std.specs.Prelude.{⊤}
use Rattle.std.proofs.Common.{append-nil, append_assoc, refl, sym, ap, subst, ◌∙◌}
use Rattle.std.proofs.lemmas.Option.{none-some}
use Rattle.certs.specs.Purchase.{price_on, share_price_of}
use Rattle.desk_promise.proofs.Longer.{◌⨾◌, GoesOn, both_added, by_events, by_settling, by_share, by_sold, stays}
use Rattle.desk_promise.specs.LineFile.{IsOfTurns}
use Rattle.desk_promise.specs.Moves.{MovesAsTold, MovesInTurn}
use Rattle.events.specs.Event.{sv_price_set}
use Rattle.events.specs.declared.event.Event.{Event}
use Rattle.events.specs.declared.event.Event.TheVariants as event
use Rattle.events.specs.declared.ruling.OpeningRule.TheVariants.{NotOfOpening}
use Rattle.events.specs.declared.ruling.Refusal.TheVariants as refusal
use Rattle.events.specs.declared.ruling.Ruling.{Ruling}
use Rattle.events.specs.declared.ruling.StockRule.TheVariants.{NotOfStock}
use Rattle.moves.specs.OpeningRows.{opening_cost}
use Rattle.moves.specs.StockRows.{stock_cost}
use Rattle.moves.specs.declared.row.Answer.{Answer}
use Rattle.moves.specs.declared.row.Answer.TheVariants.{Obeyed}
use Rattle.order_grammar.specs.declared.order.Order.TheVariants.{Play}
use Rattle.order_grammar.specs.declared.order.ShareSource.TheVariants.{InitialOffering, BankPool}
use Rattle.order_grammar.specs.declared.play.PlayOrder.{PlayOrder}
use Rattle.order_grammar.specs.declared.play.PlayOrder.TheVariants as play
use Rattle.privates.specs.Bank.{price_of_private}
use Rattle.privates.specs.Sale.{gifts}
use Rattle.privates.specs.Turn.{after_opening_order, opening_refusal}
use Rattle.stock_round.specs.Buy.{share_bought}
use Rattle.stock_round.specs.Exchange.{exchange_source, exchanged}
use Rattle.stock_round.specs.Orders.{after_stock_order, stock_refusal}
use Rattle.stock_round.specs.Par.{president_shares}
use Rattle.tables.specs.declared.roster.Company.{Company}
use Rattle.tables.specs.declared.roster.Company.TheVariants.{NewYorkCentral}
use Rattle.tables.specs.declared.roster.Private.{Private}
use Rattle.tables.specs.declared.roster.Private.TheVariants.{SchuylkillValley}
use Rattle.tables.specs.declared.seat.Seat.{Seat}
use Rattle.tables.specs.declared.squares.Square.{Square}
use Rattle.totals.proofs.EventAtEnd.{par_of_before, square_of_before, sv_price_of_before}
use Rattle.totals.specs.LookBack.{Game}

-- the list goes on with what an order moves, as is told of it
pub record Moved (answer : Answer) (Moves : ℕ → List Event → Type 0) (old new : List Event) : Type 0 where
  pub moved : List Event
  pub as_told : MovesAsTold answer Moves moved
  pub goes_on : GoesOn (old ++ moved) new

-- and then with more
pub then_on : {answer : Answer} {Moves : ℕ → List Event → Type 0} {old mid new : List Event} → Moved answer Moves old mid
    → GoesOn mid new → Moved answer Moves old new
then_on its later = record { moved = its.moved; as_told = its.as_told; goes_on = its.goes_on ⨾ later }

-- nothing moves
pub nothing_moves : (answer : Answer) (Moves : ℕ → List Event → Type 0) (events : List Event)
    → MovesAsTold answer Moves [] → Moved answer Moves events events
nothing_moves answer Moves events told =
    record {
      moved = [];
      as_told = told;
      goes_on = record { more = []; longer = sym (append-nil (events ++ []) ∙ append-nil events) };
    }

-- these events move this much
pub it_moves : (Moves : ℕ → List Event → Type 0) (amount : ℕ) (old new moved : List Event) → Moves amount moved
    → GoesOn (old ++ moved) new → Moved (Obeyed (pos amount)) Moves old new
it_moves Moves amount old new moved its goes_on =
    record {
      moved = moved;
      as_told = record { amount = amount; priced = refl; moves = its };
      goes_on = goes_on;
    }

-- an order of a stock round
abbrev pub IsOfStock : PlayOrder → Type 0
IsOfStock (play.BuyPrivate private) = ⊥
IsOfStock (play.Bid private amount) = ⊥
IsOfStock other = IsOfTurns other

-- any other is refused there
pub only_stock : (game : Game) (seat : Seat) (bought : Option Company) (its : PlayOrder) → IsOfTurns its
    → stock_refusal game seat bought (Play its) ≡ None → IsOfStock its
only_stock game seat bought (play.BuyPrivate private) fit kept = absurd (none-some (refusal.Stock NotOfStock) (sym kept))
only_stock game seat bought (play.Bid private amount) fit kept = absurd (none-some (refusal.Stock NotOfStock) (sym kept))
only_stock game seat bought (play.Par company price) fit kept = fit
only_stock game seat bought (play.BuyShare company from) fit kept = fit
only_stock game seat bought (play.Sell company shares) fit kept = fit
only_stock game seat bought play.ExchangeMohawk fit kept = fit
only_stock game seat bought other fit kept = absurd fit

-- what an order of a stock round moves as it is done
pub stock_moved : (game : Game) (seat : Seat) (its : PlayOrder) → IsOfStock its
    → Moved (Obeyed (pos (stock_cost game.events (Play its)))) (MovesInTurn seat its) game.events
    (after_stock_order game seat (Play its)).events
stock_moved game seat (play.Par company price) fit =
    let events : List Event = game.events in
    let par : Event = event.Par company price in
    let pays : Event = event.Bought company seat president_shares InitialOffering (president_shares * price) in
    let new : List Event = ((events ++ par ∷ []) ++ pays ∷ []) ++ event.President company seat ∷ [] in
    it_moves (MovesInTurn seat (play.Par company price)) (2 * price) events new (par ∷ pays ∷ []) refl
    (subst (λ (list : List Event). GoesOn list new) (both_added events par pays)
    (by_events ((events ++ par ∷ []) ++ pays ∷ []) (event.President company seat ∷ [])))
stock_moved game seat (play.BuyShare company from) fit =
    it_moves (MovesInTurn seat (play.BuyShare company from)) (share_price_of game.events company from) game.events
    (after_stock_order game seat (Play (play.BuyShare company from))).events
    (event.Bought company seat 1 from (share_price_of game.events company from) ∷ []) refl
    (by_share (share_bought game seat company from) company)
stock_moved game seat (play.Sell company shares) fit =
    let price : ℕ = stock_cost game.events (Play (play.Sell company shares)) in
    it_moves (MovesInTurn seat (play.Sell company shares)) price game.events
    (after_stock_order game seat (Play (play.Sell company shares))).events
    (event.Sells company seat shares price ∷ []) refl (by_sold game seat company shares)
stock_moved game seat play.ExchangeMohawk fit =
    it_moves (MovesInTurn seat play.ExchangeMohawk) 0 game.events
    (after_stock_order game seat (Play play.ExchangeMohawk)).events
    (event.Exchanged seat (exchange_source game.events) ∷ [])
    (record { free = refl; from = exchange_source game.events; is = refl })
    (by_share (exchanged game seat) NewYorkCentral)
stock_moved game seat other fit = absurd fit

-- a ruling changes no price of a stock round
pub same_stock_cost : (events : List Event) (seat : Seat) (number : ℕ) (done : Ruling) (its : PlayOrder) → IsOfStock its
    → stock_cost (events ++ event.Ruled seat number done ∷ []) (Play its) ≡ stock_cost events (Play its)
same_stock_cost events seat number done (play.Par company price) fit = refl
same_stock_cost events seat number done (play.BuyShare company InitialOffering) fit =
    ap (λ (par : Option ℕ). unwrap_or par 0) (par_of_before events (event.Ruled seat number done) company refl)
same_stock_cost events seat number done (play.BuyShare company BankPool) fit =
    ap price_on (square_of_before events (event.Ruled seat number done) company refl)
same_stock_cost events seat number done (play.Sell company shares) fit =
    ap (λ (square : Option Square). shares * price_on square)
    (square_of_before events (event.Ruled seat number done) company refl)
same_stock_cost events seat number done play.ExchangeMohawk fit = refl
same_stock_cost events seat number done other fit = absurd fit

-- an order of an opening
abbrev pub IsOfOpening : PlayOrder → Type 0
IsOfOpening (play.BuyPrivate private) = ⊤
IsOfOpening (play.Bid private amount) = ⊤
IsOfOpening other = ⊥

-- any other is refused there
pub only_opening : (seats : ℕ) (events : List Event) (seat : Seat) (used : Bool) (its : PlayOrder) → IsOfTurns its
    → opening_refusal seats events seat used (Play its) ≡ None → IsOfOpening its
only_opening seats events seat used (play.BuyPrivate private) fit kept = tt
only_opening seats events seat used (play.Bid private amount) fit kept = tt
only_opening seats events seat used (play.Par company price) fit kept =
    absurd (none-some (refusal.Opening NotOfOpening) (sym kept))
only_opening seats events seat used (play.BuyShare company from) fit kept =
    absurd (none-some (refusal.Opening NotOfOpening) (sym kept))
only_opening seats events seat used (play.Sell company shares) fit kept =
    absurd (none-some (refusal.Opening NotOfOpening) (sym kept))
only_opening seats events seat used play.ExchangeMohawk fit kept =
    absurd (none-some (refusal.Opening NotOfOpening) (sym kept))
only_opening seats events seat used other fit kept = absurd fit

-- what an order of an opening moves as it is done
pub opening_moved : (seats : ℕ) (seat : Seat) (events : List Event) (its : PlayOrder) → IsOfOpening its
    → Moved (Obeyed (pos (opening_cost events (Play its)))) (MovesInTurn seat its) events
    (after_opening_order seats seat events (Play its))
opening_moved seats seat events (play.BuyPrivate private) fit =
    let price : ℕ = price_of_private events private in
    let pays : Event = event.Sold private seat price in
    it_moves (MovesInTurn seat (play.BuyPrivate private)) price events
    (after_opening_order seats seat events (Play (play.BuyPrivate private))) (pays ∷ []) refl
    (record {
      more = gifts events private seat;
      longer = sym (append_assoc events (pays ∷ []) (gifts events private seat));
    }
    ⨾ by_settling seats _)
opening_moved seats seat events (play.Bid private amount) fit =
    it_moves (MovesInTurn seat (play.Bid private amount)) amount events
    (after_opening_order seats seat events (Play (play.Bid private amount)))
    (event.Bids private seat amount ∷ []) refl stays
opening_moved seats seat events other fit = absurd fit

-- what sets no price of SV changes no private's price
same_private_price : (private : Private) (events : List Event) (its : Event) → sv_price_set its ≡ None
    → price_of_private (events ++ its ∷ []) private ≡ price_of_private events private
same_private_price SchuylkillValley events its none = sv_price_of_before events its none
same_private_price other events its none = refl

pub same_opening_cost : (events : List Event) (seat : Seat) (number : ℕ) (done : Ruling) (its : PlayOrder)
    → IsOfOpening its
    → opening_cost (events ++ event.Ruled seat number done ∷ []) (Play its) ≡ opening_cost events (Play its)
same_opening_cost events seat number done (play.BuyPrivate private) fit =
    same_private_price private events (event.Ruled seat number done) refl
same_opening_cost events seat number done (play.Bid private amount) fit = refl
same_opening_cost events seat number done other fit = absurd fit
