-- Shares that are sold.
use Rattle.std.proofs.Common.{ℕ, ◌*◌, false, List, [], ◌∷◌, ◌++◌, Option, Some, None, refl}
use Rattle.certs.specs.Purchase.{market_price_of}
use Rattle.certs.specs.SaleAct.{sold, with_president}
use Rattle.events.specs.declared.event.Event.{Event}
use Rattle.events.specs.declared.event.Event.TheVariants as event
use Rattle.market.specs.Moves.{fallen}
use Rattle.market.specs.Token.{moved_from, same_square}
use Rattle.totals.specs.LookBack.{Game}
use Rattle.totals.specs.Shares.{president_of, square_of}
use Rattle.stock_round.proofs.FloatLemmas.{in_break, in_succession}
use Rattle.stock_round.specs.Sell.{after_sale}
use Rattle.tables.specs.declared.roster.Company.{Company}
use Rattle.tables.specs.declared.seat.Seat.{Seat}
use Rattle.tables.specs.declared.squares.Square.{Square}
use Rattle.turns.proofs.Acted.{in_both, in_either, nobody, one_more}
use Rattle.turns.specs.Acted.{SaysWhoActed}

-- nobody acts where a token moves from this square, if it is on one
in_move : (move : Square → Square) (seat : Seat) (events : List Event) (company : Company) (square : Option Square)
    → SaysWhoActed seat false events (moved_from move events company square)
in_move move seat events company None = nobody seat events
in_move move seat events company (Some square) =
    in_either seat false events events (events ++ event.Moves company (move square) ∷ [])
    (same_square (move square) square) (nobody seat events)
    (one_more seat false events (event.Moves company (move square)) refl)

-- nobody acts by the events of a sale, since its line has recorded it
pub in_sale : (game : Game) (seat : Seat) (company : Company) (shares : ℕ)
    → SaysWhoActed seat false game.events (after_sale game seat company shares).events
in_sale game seat company shares =
    let events = game.events in
    let price : ℕ = shares * market_price_of events company in
    let recorded : List Event = events ++ event.Sells company seat shares price ∷ [] in
    let paid : Game = sold game seat company shares in
    let presided : Game = with_president paid company in
    let last : List Event = (after_sale game seat company shares).events in
    in_both seat false false events paid.events last
    (in_both seat false false events recorded paid.events
    (one_more seat false events (event.Sells company seat shares price) refl) (in_break game.seats seat recorded))
    (in_both seat false false paid.events presided.events last
    (in_succession paid seat company (president_of paid.events company))
    (in_move (fallen shares) seat presided.events company (square_of presided.events company)))
