-- A share that is bought.
use Rattle.std.proofs.Common.{◌≡◌, ℕ, ◌<◌, true, false, List, Option, Some, None, is_some, ℤ, pos, ◌≤ℤ◌}
use Rattle.std.proofs.Common.{refl, sym, subst, ap, ◌∙◌, arith}
use Rattle.std.proofs.lemmas.Int.{ints}
use Rattle.std.specs.Int.Signed.{lt_z}
use Rattle.std.proofs.lemmas.Bool.{not-false}
use Rattle.certs.proofs.SaleAllowed.{same_start}
use Rattle.certs.specs.Purchase.{is_sold_out_there, purchase_judgement, share_price_of, share_purchase_rules}
use Rattle.certs.specs.declared.share_deal.Purchase.TheVariants as purchase
use Rattle.events.specs.Event.{place_of_source}
use Rattle.events.specs.RuleCodes.{code_of_stock_rule}
use Rattle.events.specs.declared.event.Event.{Event}
use Rattle.events.specs.declared.event.Event.TheVariants as event
use Rattle.events.specs.declared.ruling.StockRule.TheVariants.{NoneThere, WrongStart, CashTooSmall}
use Rattle.history.proofs.Purchases.{purchase_sound as purchase_law}
use Rattle.history.specs.Sound.{IsSound}
use Rattle.totals.specs.AtEnd.{SaysTheSame}
use Rattle.totals.specs.Bids.{free_cash_of}
use Rattle.totals.specs.LookBack.{Game, with_event, with_events}
use Rattle.totals.specs.Shares.{is_started, shares_of, square_of}
use Rattle.order_grammar.specs.declared.order.ShareSource.{ShareSource}
use Rattle.stock_round.proofs.FloatLemmas.{in_what_follows}
use Rattle.stock_round.proofs.PriceLemmas.{paid, same_price, same_purse}
use Rattle.stock_round.specs.Buy.{MayBuy, after_purchase, share_bought}
use Rattle.tables.proofs.Rules.{not_broken}
use Rattle.tables.specs.declared.roster.Company.{Company}
use Rattle.tables.specs.declared.seat.Seat.{Seat}
use Rattle.tables.specs.declared.squares.Square.{Square}
use Rattle.turns.proofs.Acted.{in_both, one_more}
use Rattle.history.specs.Games.{IsGame}
use Rattle.turns.specs.Acted.{SaysWhoActed}

-- a share can be bought
pub purchase_allowed : (game : Game) (seat : Seat) (company : Company) (from : ShareSource) (bought : Option Company)
    → purchase_judgement game.seats game.events seat (purchase.Share company from) bought ≡ None
    → MayBuy game seat company from
unfolding purchase_judgement
purchase_allowed game seat company from bought none =
    let kept = not_broken code_of_stock_rule
    (share_purchase_rules game.seats game.events seat (purchase.Share company from) bought) none in
    record {
      there = kept NoneThere;
      started = not-false (is_started game.events company) (kept WrongStart);
      pays = kept CashTooSmall;
    }

-- a share can still be bought where a list says the same
pub still_may_buy : (game : Game) (after : List Event) (seat : Seat) (company : Company) (from : ShareSource)
    → SaysTheSame game.events after → MayBuy game seat company from → MayBuy (with_events game after) seat company from
unfolding is_sold_out_there
still_may_buy game after seat company from same may =
    let seats = game.seats in
    let before = game.events in
    record {
      there = ap (λ (shares : ℤ). lt_z shares (pos 1)) (same.shares company (place_of_source from)) ∙ may.there;
      started = same_start before after company same ∙ may.started;
      pays = same_purse seats before after seat (share_price_of before company from)
          (share_price_of after company from) same (same_price before after company from same) ∙ may.pays;
    }

-- a share that is not missing is there
there_is : (events : List Event) (company : Company) (from : ShareSource)
    → lt_z (shares_of events company (place_of_source from)) (pos 1) ≡ false
    → pos 1 ≤ℤ shares_of events company (place_of_source from)
there_is events company from may = grind (arith, ints, may)

-- the purchase of a share
pub purchase_game : (game new : Game) (seat : Seat) (company : Company) (from : ShareSource) (price : ℕ)
    → MayBuy game seat company from → seat.0 < game.seats
    → price ≡ share_price_of game.events company from → new ≡ with_event game (event.Bought company seat 1 from price)
    → IsGame game → IsGame new
unfolding is_sold_out_there
purchase_game game new seat company from price may within is_price recorded before =
    let sound = before.sound in
    let pays : pos price ≤ℤ free_cash_of game.seats game.events seat =
    subst (λ (n : ℕ). pos n ≤ℤ free_cash_of game.seats game.events seat) (sym is_price)
    (paid game.seats game.events seat (share_price_of game.events company from) may.pays) in
    subst IsGame (sym recorded) (record {
      few = before.few;
      sound =
          elim (square_of game.events company) as (λ (found : Option Square). square_of game.events company ≡ found
          → is_some found ≡ true → IsSound (with_event game (event.Bought company seat 1 from price))) [
            | None ↦ λ is has. absurd (cc)
            | Some square ↦ λ is has. purchase_law game company seat 1 from price square is within
                (there_is game.events company from may.there) pays sound
          ]
          refl may.started;
    })

-- by a purchase the seat acts
pub in_purchase : (game : Game) (seat : Seat) (company : Company) (from : ShareSource)
    → SaysWhoActed seat true game.events (after_purchase game seat company from).events
in_purchase game seat company from =
    let paid : Game = share_bought game seat company from in
    in_both seat true false game.events paid.events (after_purchase game seat company from).events
    (one_more seat true game.events (event.Bought company seat 1 from (share_price_of game.events company from)) refl)
    (in_what_follows paid seat company)
