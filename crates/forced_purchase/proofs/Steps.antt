-- The steps of a forced purchase, from what each part of them does.
use Rattle.std.proofs.Common.{◌≡◌, Bool, true, false, ◌&&◌, if◌then◌else◌, List, [], ◌∷◌, ◌++◌, Option}
use Rattle.std.proofs.Common.{Some, None, find, option_map, is_none, refl, sym, ap, subst, ◌∙◌}
use Rattle.certs.proofs.SaleAllowed.{sale_allowed, same_judgement}
use Rattle.certs.specs.Sale.{sale_judgement}
use Rattle.certs.specs.SaleAct.{MaySell}
use Rattle.certs.specs.declared.share_deal.Sale.{Sale}
use Rattle.events.specs.Event.{IsQuiet, round_begun_by}
use Rattle.events.specs.declared.event.Event.{Event}
use Rattle.events.specs.declared.event.Event.TheVariants as event
use Rattle.events.specs.declared.ruling.Refusal.{Refusal}
use Rattle.events.specs.declared.ruling.Refusal.TheVariants as refusal
use Rattle.events.specs.declared.ruling.Ruling.{Ruling}
use Rattle.events.specs.declared.ruling.Ruling.TheVariants.{Obeyed}
use Rattle.events.specs.declared.ruling.StockRule.{StockRule}
use Rattle.events.specs.declared.ruling.StockRule.TheVariants.{NotOfStock}
use Rattle.totals.proofs.EventAtEnd.{last_said_before, quiet_same}
use Rattle.history.specs.Conditions.{is_met}
use Rattle.totals.specs.LookBack.{Game, with_event}
use Rattle.forced_purchase.specs.Forced.{after_forced, concluded, next_to_sell, one_share, sold_further, sold_singly}
use Rattle.forced_purchase.specs.Forced.{with_aid, with_one_sold}
use Rattle.forced_purchase.specs.Raise.{after_presidents_sale, after_raise, after_raises, needed_judgement, raise_judgement}
use Rattle.forced_purchase.specs.Raise.{raise_ruled, raised_sale_judgement, with_ruling}
use Rattle.forced_purchase.specs.Shortfall.{cheapest, falls_short}
use Rattle.purchases.specs.Train.{after_train}
use Rattle.forced_purchase.specs.declared.operator.Operator.{Operator}
use Rattle.purchases.specs.declared.train.TrainPurchase.{TrainPurchase}
use Rattle.order_grammar.specs.declared.condition.Condition.{Condition}
use Rattle.order_grammar.specs.declared.order.Order.TheVariants as order
use Rattle.order_grammar.specs.declared.play.PlayOrder.TheVariants as play
use Rattle.sheets.specs.Part.{Numbered}
use Rattle.tables.specs.Roster.{companies}
use Rattle.tables.specs.declared.roster.Company.{Company}
use Rattle.tables.proofs.Tests.{none_by_is_none}
use Rattle.turns.specs.Ruling.{judged}

-- where no rule of stock refuses, none is broken
none_refused : (broken : Option StockRule) → option_map refusal.Stock broken ≡ None → broken ≡ None
none_refused None none = refl
none_refused (Some rule) none = absurd cc

-- a RAISE that is needed and breaks no rule is a sale that breaks none
needed_obeyed : (by : Operator) (game : Game) (condition : Option Condition) (sale : Sale)
    → needed_judgement by game condition sale ≡ None → raised_sale_judgement by game sale ≡ None
needed_obeyed by game condition sale none =
    elim (is_met game.events condition) as (λ (met : Bool).
    (if met then option_map refusal.Stock (raised_sale_judgement by game sale) else Some refusal.Condition) ≡ None
    → raised_sale_judgement by game sale ≡ None) [
      | true ↦ none_refused (raised_sale_judgement by game sale)
      | false ↦ λ wrong. absurd cc
    ]
    none

-- so is one that breaks none, be it needed or not
pub raise_obeyed : (due : Bool) (by : Operator) (game : Game) (condition : Option Condition) (sale : Sale)
    → raise_judgement due by game condition sale ≡ None
    → sale_judgement game.seats game.events by.president sale (Some by.company) ≡ None
unfolding raise_judgement raised_sale_judgement
raise_obeyed due by game condition sale none =
    elim (due && falls_short by game) as (λ (b : Bool).
    (if b then needed_judgement by game condition sale else Some (refusal.Stock NotOfStock)) ≡ None
    → sale_judgement game.seats game.events by.president sale (Some by.company) ≡ None) [
      | true ↦ needed_obeyed by game condition sale
      | false ↦ λ wrong. absurd cc
    ]
    none

-- and sells what it says
pub raised : (due : Bool) (by : Operator) (old recorded new : Game) (line : Numbered) (sale : Sale)
    → raise_judgement due by old line.condition sale ≡ None
    → recorded ≡ with_ruling by old line (Obeyed line.condition (order.Play (play.Raise sale.company sale.shares)))
    → new ≡ after_presidents_sale by recorded sale → new ≡ after_raise due by old line sale
raised due by old recorded new line sale none is_recorded sold =
    sold ∙ ap (λ (game : Game). after_presidents_sale by game sale) is_recorded ∙ ap (raise_ruled by old line sale) (sym none)

-- one that breaks a rule is recorded, and sells nothing
pub raise_refused : (due : Bool) (by : Operator) (old new : Game) (line : Numbered) (sale : Sale)
    (broken : Option Refusal) → raise_judgement due by old line.condition sale ≡ broken → is_none broken ≡ false
    → new ≡ with_ruling by old line (judged line.condition (order.Play (play.Raise sale.company sale.shares)) broken)
    → new ≡ after_raise due by old line sale
raise_refused due by old new line sale None is none recorded = absurd cc
raise_refused due by old new line sale (Some rule) is none recorded =
    recorded ∙ ap (raise_ruled by old line sale) (sym is)

-- the company that is found passes the test
found_passes : (test : Company → Bool) (among : List Company) (company : Company) → find test among ≡ Some company
    → test company ≡ true
found_passes test [] company is = absurd cc
found_passes test (first ∷ others) company is =
    elim (test first) as (λ (b : Bool). test first ≡ b → (if b then Some first else find test others) ≡ Some company
    → test company ≡ true) [
      | true ↦ λ passes here.
          let same : first ≡ company = cc in
          subst (λ (its : Company). test its ≡ true) same passes
      | false ↦ λ fails later. found_passes test others company later
    ]
    refl is

-- the share of the first company that the president may sell one of can be sold
pub may_sell_share : (by : Operator) (game : Game) (company : Company) (sale : Sale) → sale ≡ one_share company
    → next_to_sell by game ≡ Some company → MaySell game by.president sale
unfolding next_to_sell raised_sale_judgement
may_sell_share by game company sale is found =
    let passes : is_none (sale_judgement game.seats game.events by.president (one_share company) (Some by.company))
    ≡ true = found_passes (λ its. is_none (sale_judgement game.seats game.events by.president (one_share its)
    (Some by.company))) companies company found in
    subst (λ (its : Sale). MaySell game by.president its) (sym is)
    (sale_allowed game by.president (one_share company) (Some by.company)
    (none_by_is_none (sale_judgement game.seats game.events by.president (one_share company) (Some by.company)) passes))

-- a sale that breaks no rule breaks none after a ruling
pub still_allowed : (by : Operator) (game : Game) (line : Numbered) (ruling : Ruling) (sale : Sale) →
    sale_judgement game.seats game.events by.president sale (Some by.company) ≡ None
    → raised_sale_judgement by (with_ruling by game line ruling) sale ≡ None
unfolding raised_sale_judgement
still_allowed by game line ruling sale none =
    let its : Event = event.Ruled by.president line.number ruling in
    let quiet : IsQuiet its = record {
      payment = refl;
      ownership = refl;
      bidding = refl;
      transfer = refl;
      par =
          refl;
      square = refl;
      office = refl;
      float = refl;
      sv_price = refl;
      train = refl;
      tile = refl;
      token = refl;
    } in
    same_judgement game.seats game.events (game.events ++ its ∷ []) by.president sale (Some by.company)
    (quiet_same game.events its quiet)
    (last_said_before round_begun_by (game.events ++ its ∷ []) game.events its refl refl)
    ∙ none

-- nor does that of the share which is sold next
pub next_allowed : (by : Operator) (game : Game) (company : Company) → next_to_sell by game ≡ Some company
    → raised_sale_judgement by game (one_share company) ≡ None
unfolding next_to_sell
next_allowed by game company found =
    none_by_is_none (raised_sale_judgement by game (one_share company))
    (found_passes (λ its. is_none (raised_sale_judgement by game (one_share its))) companies company found)

-- one is sold
pub one_sold : (by : Operator) (old new : Game) (company : Company) (sale : Sale) → sale ≡ one_share company
    → next_to_sell by old ≡ Some company → new ≡ after_presidents_sale by old sale
    → new ≡ with_one_sold by old (next_to_sell by old)
one_sold by old new company sale is found sold =
    sold ∙ ap (λ (its : Sale). after_presidents_sale by old its) is ∙ ap (with_one_sold by old) (sym found)

-- or none
pub none_sold : (by : Operator) (game : Game) → next_to_sell by game ≡ None
    → game ≡ with_one_sold by game (next_to_sell by game)
none_sold by game none = ap (with_one_sold by game) (sym none)

-- where the president falls short
pub sold_then : (by : Operator) (old new : Game) → falls_short by old ≡ true
    → new ≡ with_one_sold by old (next_to_sell by old) → new ≡ sold_further by old
unfolding sold_further
sold_then by old new short sold = sold ∙ ap (λ (b : Bool). if b then with_one_sold by old
    (next_to_sell by old) else old) (sym short)

pub not_sold : (by : Operator) (game : Game) → falls_short by game ≡ false → game ≡ sold_further by game
unfolding sold_further
not_sold by game enough = ap (λ (b : Bool). if b then with_one_sold by game (next_to_sell by game) else game)
    (sym enough)

-- the president is bankrupt
pub bankrupt_then : (by : Operator) (old new : Game) → falls_short by old ≡ true
    → new ≡ with_event old (event.Bankrupt by.president) → new ≡ concluded by old
unfolding concluded
bankrupt_then by old new short recorded =
    recorded ∙ ap (λ (b : Bool). if b then with_event old (event.Bankrupt by.president) else after_train
    (with_aid by old) by.company (cheapest old.events)) (sym short)

-- or the company buys
pub bought_then : (by : Operator) (old aided new : Game) (purchase : TrainPurchase) → falls_short by old ≡ false
    → purchase ≡ cheapest old.events → aided ≡ with_aid by old → new ≡ after_train aided by.company purchase
    → new ≡ concluded by old
unfolding concluded
bought_then by old aided new purchase enough is_cheapest is_aided bought =
    bought
    ∙ ap (λ (game : Game). after_train game by.company purchase) is_aided
    ∙ ap (after_train (with_aid by old) by.company) is_cheapest
    ∙ ap (λ (b : Bool). if b then with_event old (event.Bankrupt by.president) else after_train (with_aid by old)
    by.company (cheapest old.events)) (sym enough)

-- all of it
pub forced_then : (by : Operator) (lines : List Numbered) (old recorded raised sold new : Game)
    → recorded ≡ with_event old (event.Forced by.company) → raised ≡ after_raises true by recorded lines
    → sold ≡ sold_singly by raised → new ≡ concluded by sold → new ≡ after_forced by lines old
unfolding after_forced
forced_then by lines old recorded raised sold new is_recorded is_raised is_sold is_new =
    is_new
    ∙ ap (concluded by) is_sold
    ∙ ap (λ (game : Game). concluded by (sold_singly by game)) is_raised
    ∙ ap (λ (game : Game). concluded by (sold_singly by (after_raises true by game lines))) is_recorded
