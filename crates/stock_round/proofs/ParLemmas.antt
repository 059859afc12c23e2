-- A company that is started.
use Rattle.std.proofs.Common.{◌≡◌, ℕ, ◌*◌, ◌<◌, true, false, List, Option, None, pos, ◌≤ℤ◌, refl, sym, subst}
use Rattle.std.proofs.Common.{◌∙◌}
use Rattle.std.proofs.lemmas.Bool.{not-false}
use Rattle.certs.proofs.SaleAllowed.{same_start}
use Rattle.certs.specs.Purchase.{purchase_judgement, share_purchase_rules}
use Rattle.certs.specs.declared.share_deal.Purchase.TheVariants as purchase
use Rattle.events.specs.Event.{is_par_value}
use Rattle.events.specs.RuleCodes.{code_of_stock_rule}
use Rattle.events.specs.declared.event.Event.{Event}
use Rattle.events.specs.declared.event.Event.TheVariants as event
use Rattle.events.specs.declared.ruling.StockRule.TheVariants.{NoParValue, WrongStart, CashTooSmall}
use Rattle.history.proofs.Purchases.{start_by_purchase_sound}
use Rattle.totals.specs.AtEnd.{SaysTheSame}
use Rattle.totals.specs.Bids.{free_cash_of}
use Rattle.totals.specs.LookBack.{Game, with_event, with_events}
use Rattle.totals.specs.Shares.{square_of}
use Rattle.order_grammar.specs.declared.order.ShareSource.TheVariants.{InitialOffering}
use Rattle.stock_round.proofs.PriceLemmas.{paid, same_purse}
use Rattle.stock_round.specs.Par.{MayStart, after_start, president_shares}
use Rattle.tables.proofs.Rules.{not_broken}
use Rattle.tables.specs.declared.roster.Company.{Company}
use Rattle.tables.specs.declared.seat.Seat.{Seat}
use Rattle.tables.proofs.Tests.{none_by_is_some}
use Rattle.turns.proofs.Acted.{in_both, one_more}
use Rattle.history.specs.Games.{IsGame}
use Rattle.turns.specs.Acted.{SaysWhoActed}

-- a company can be started where no rule is broken
pub start_allowed : (game : Game) (seat : Seat) (company : Company) (price : ℕ) (bought : Option Company)
    → purchase_judgement game.seats game.events seat (purchase.Par company price) bought ≡ None
    → MayStart game seat company price
unfolding purchase_judgement
start_allowed game seat company price bought none =
    let kept = not_broken code_of_stock_rule
    (share_purchase_rules game.seats game.events seat (purchase.Par company price) bought) none in
    record { par = kept NoParValue; fresh = kept WrongStart; pays = kept CashTooSmall }

-- a company can still be started where a list says the same
pub still_may_start : (game : Game) (after : List Event) (seat : Seat) (company : Company) (price : ℕ)
    → SaysTheSame game.events after → MayStart game seat company price
    → MayStart (with_events game after) seat company price
still_may_start game after seat company price same may =
    record {
      par = may.par;
      fresh = same_start game.events after company same ∙ may.fresh;
      pays = same_purse game.seats game.events after seat (president_shares * price) (president_shares * price) same refl
          ∙ may.pays;
    }

-- the start of a company
pub start_game : (game new : Game) (seat : Seat) (company : Company) (price cost : ℕ)
    → MayStart game seat company price → seat.0 < game.seats → cost ≡ president_shares * price
    → new ≡ with_event (with_event (with_event game (event.Par company price))
    (event.Bought company seat 2 InitialOffering cost)) (event.President company seat) → IsGame game → IsGame new
start_game game new seat company price cost may within is_cost recorded before =
    let pays : pos cost ≤ℤ free_cash_of game.seats game.events seat =
    subst (λ (n : ℕ). pos n ≤ℤ free_cash_of game.seats game.events seat) (sym is_cost)
    (paid game.seats game.events seat (president_shares * price) may.pays) in
    subst IsGame (sym recorded) (record {
      few = before.few;
      sound = start_by_purchase_sound game company seat price cost (not-false (is_par_value price) may.par)
          (none_by_is_some (square_of game.events company) may.fresh) within pays before.sound;
    })

-- the seat acts by a start, since it buys
pub in_start : (game : Game) (seat : Seat) (company : Company) (price : ℕ)
    → SaysWhoActed seat true game.events (after_start game seat company price).events
in_start game seat company price =
    let par : Game = with_event game (event.Par company price) in
    let bought : Game = with_event par (event.Bought company seat 2 InitialOffering (2 * price)) in
    let last : Game = with_event bought (event.President company seat) in
    in_both seat false true game.events par.events last.events
    (one_more seat false game.events (event.Par company price) refl)
    (in_both seat true false par.events bought.events last.events
    (one_more seat true par.events (event.Bought company seat 2 InitialOffering (2 * price)) refl)
    (one_more seat false bought.events (event.President company seat) refl))
