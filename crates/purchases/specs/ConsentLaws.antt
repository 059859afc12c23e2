-- Who sells has agreed. If no rule refuses a train of a company, that company is another than the
-- buyer, has such a train, and the price is not 0. Its president presides over the buyer too, or
-- has offered exactly this sale in this round. If no rule refuses a private, a player owns it, and
-- they have agreed in the same way.
use Rattle.std.specs.Prelude.{◌≡◌, ℕ, ◌<◌, true, false, Some, None}
use Rattle.events.specs.declared.event.Holder.TheVariants as holder
use Rattle.totals.specs.LookBack.{Game, owner_of}
use Rattle.totals.specs.Offers.{has_consent}
use Rattle.totals.specs.Shares.{president_of}
use Rattle.purchases.specs.Discard.{has_train}
use Rattle.purchases.specs.Private.{private_judgement}
use Rattle.purchases.specs.Train.{purchase_of, train_judgement}
use Rattle.order_grammar.specs.declared.order.Offer.TheVariants as offer
use Rattle.order_grammar.specs.declared.order.TrainSource.TheVariants.{Company as OfCompany}
use Rattle.tables.specs.Roster.{same_company}
use Rattle.tables.specs.declared.rolling_stock.Kind.{Kind}
use Rattle.tables.specs.declared.roster.Company.{Company}
use Rattle.tables.specs.declared.roster.Private.{Private}
use Rattle.tables.specs.declared.seat.Seat.{Seat}

-- the president of a company agrees that it sells a train to another for this much
pub record CompanyAgrees (game : Game) (seller buyer : Company) (kind : Kind) (price : ℕ) : Type 0 where
  pub giver : Seat
  pub taker : Seat
  pub presides : president_of game.events seller ≡ Some giver
  pub leads : president_of game.events buyer ≡ Some taker
  pub agrees : has_consent game.events giver taker (offer.Train kind seller buyer price) ≡ true
  pub priced : 0 < price
  pub has : has_train game.events seller kind ≡ true
  pub another : same_company buyer seller ≡ false

abbrev pub CompaniesAgree : Type 0
CompaniesAgree =
    (game : Game) (buyer seller : Company) (kind : Kind) (price : ℕ) →
    train_judgement game buyer (purchase_of kind (OfCompany seller price)) ≡ None
    → CompanyAgrees game seller buyer kind price

-- the player who owns a private agrees that it is sold to a company for this much
pub record OwnerAgrees (game : Game) (buyer : Company) (private : Private) (price : ℕ) : Type 0 where
  pub giver : Seat
  pub taker : Seat
  pub owns : owner_of game.events private ≡ Some (holder.Seat giver)
  pub leads : president_of game.events buyer ≡ Some taker
  pub agrees : has_consent game.events giver taker (offer.Private private buyer price) ≡ true

abbrev pub OwnersAgree : Type 0
OwnersAgree =
    (game : Game) (buyer : Company) (private : Private) (price : ℕ) →
    private_judgement game buyer private price ≡ None → OwnerAgrees game buyer private price
