-- A RAISE line is judged before FORCED as after it.
use Rattle.std.proofs.Common.{◌≡◌, ℕ, Bool, List, [], ◌∷◌, Option, Some, None, ℤ, pos, ◌-ℤ◌, refl, ap, ◌∙◌}
use Rattle.std.specs.Int.Signed.{lt_z}
use Rattle.std.specs.Prelude.{if◌then◌else◌, option_map, true}
use Rattle.certs.proofs.SaleAllowed.{same_judgement}
use Rattle.certs.specs.declared.share_deal.Sale.{Sale}
use Rattle.events.specs.Event.{IsQuiet, party_at, party_of_company, round_begun_by}
use Rattle.events.specs.declared.event.Event.{Event}
use Rattle.events.specs.declared.event.Event.TheVariants as event
use Rattle.events.specs.declared.event.TrainSeller.TheVariants as seller
use Rattle.events.specs.declared.ruling.Refusal.TheVariants as refusal
use Rattle.events.specs.declared.ruling.StockRule.{StockRule}
use Rattle.events.specs.declared.ruling.StockRule.TheVariants.{NotOfStock}
use Rattle.forced_purchase.specs.Raise.{raise_judgement, raised_sale_judgement}
use Rattle.forced_purchase.specs.Shortfall.{cheapest, falls_short, first_on_sale, lack_of, purchase_without_trade_in}
use Rattle.forced_purchase.specs.declared.operator.Operator.{Operator}
use Rattle.purchases.proofs.TrainsAlike.{AreTrainsAlike, alike_at_end, same_sale}
use Rattle.purchases.specs.Train.{numbered_kinds, sells, train_purchase_cost}
use Rattle.purchases.specs.declared.train.TrainPurchase.{TrainPurchase}
use Rattle.tables.specs.declared.rolling_stock.Kind.{Kind}
use Rattle.tables.specs.declared.roster.Company.{Company}
use Rattle.totals.proofs.EventAtEnd.{last_said_before, quiet_same}
use Rattle.totals.specs.AtEnd.{SaysTheSame}
use Rattle.totals.specs.Bids.{bids_of}
use Rattle.totals.specs.LookBack.{Game, cash_of, with_event}
use Rattle.totals.specs.Trains.{trains_held}

-- where as many trains of each kind are there, the same is the cheapest
same_on_sale : (old new : List Event) → AreTrainsAlike old new → (kinds : List Kind)
    → first_on_sale new kinds ≡ first_on_sale old kinds
unfolding first_on_sale
same_on_sale old new alike [] = refl
same_on_sale old new alike (kind ∷ others) =
    ap (λ (sold : Bool). if sold then purchase_without_trade_in kind seller.Bank
    else (if lt_z (pos 0) (trains_held new None kind) then purchase_without_trade_in kind seller.BankPool
    else first_on_sale new others)) (same_sale alike seller.Bank kind)
    ∙ ap (λ (held : ℤ). if sells old kind then purchase_without_trade_in kind seller.Bank
    else (if lt_z (pos 0) held then purchase_without_trade_in kind seller.BankPool
    else first_on_sale new others)) (alike.held None kind)
    ∙ ap (λ (other : TrainPurchase). if sells old kind then purchase_without_trade_in kind seller.Bank
    else (if lt_z (pos 0) (trains_held old None kind) then purchase_without_trade_in kind seller.BankPool
    else other)) (same_on_sale old new alike others)

module _ (game : Game) (company : Company) where
  -- that a train must be bought
  abbrev forced : Event
  forced = event.Forced company

  abbrev pub once_forced : Game
  once_forced = with_event game forced

  quiet : IsQuiet forced
  quiet =
      record {
        payment = refl;
        ownership = refl;
        bidding = refl;
        transfer = refl;
        par = refl;
        square = refl;
        office = refl;
        float = refl;
        sv_price = refl;
        train = refl;
        tile = refl;
        token = refl;
      }

  -- it changes nothing that a sale depends on
  same : SaysTheSame game.events once_forced.events
  same = quiet_same game.events forced quiet

  sold_so : (by : Operator) (sale : Sale) → raised_sale_judgement by once_forced sale ≡ raised_sale_judgement by game sale
  unfolding raised_sale_judgement
  sold_so by sale =
      same_judgement game.seats game.events once_forced.events by.president sale (Some by.company) same
      (last_said_before round_begun_by once_forced.events game.events forced refl refl)

  -- nor what is lacking
  same_cheapest : cheapest once_forced.events ≡ cheapest game.events
  unfolding cheapest
  same_cheapest =
      same_on_sale game.events once_forced.events (alike_at_end game.events forced refl) numbered_kinds

  same_lack : (buyer : Company) → lack_of once_forced buyer ≡ lack_of game buyer
  unfolding lack_of
  same_lack buyer =
      ap (λ (purchase : TrainPurchase). pos (train_purchase_cost purchase)
      -ℤ cash_of game.seats once_forced.events (party_of_company buyer)) same_cheapest
      ∙ ap (λ (cash : ℤ). pos (train_purchase_cost (cheapest game.events)) -ℤ cash) (same.cash game.seats (party_of_company buyer))

  same_shortage : (by : Operator) → falls_short by once_forced ≡ falls_short by game
  unfolding falls_short
  same_shortage by =
      ap (λ (cash : ℤ). lt_z (cash -ℤ pos (bids_of once_forced.events by.president)) (lack_of once_forced by.company))
      (same.cash game.seats (party_at by.president))
      ∙ ap (λ (bids : ℕ). lt_z (cash_of game.seats game.events (party_at by.president) -ℤ pos bids)
      (lack_of once_forced by.company)) (same.bids by.president)
      ∙ ap (λ (lack : ℤ). lt_z (cash_of game.seats game.events (party_at by.president)
      -ℤ pos (bids_of game.events by.president)) lack) (same_lack by.company)

  -- so a RAISE without a condition is judged as before
  pub raise_so : (by : Operator) (sale : Sale)
      → raise_judgement true by once_forced None sale ≡ raise_judgement true by game None sale
  unfolding raise_judgement
  raise_so by sale =
      ap (λ (short : Bool). if short then option_map refusal.Stock (raised_sale_judgement by once_forced sale)
      else Some (refusal.Stock NotOfStock)) (same_shortage by)
      ∙ ap (λ (broken : Option StockRule). if falls_short by game then option_map refusal.Stock broken
      else Some (refusal.Stock NotOfStock)) (sold_so by sale)
