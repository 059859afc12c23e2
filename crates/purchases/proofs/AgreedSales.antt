-- What breaks no rule is agreed: the sale of a train or a private to a company.
use Rattle.std.proofs.Common.{◌≡◌, ℕ, Some, None}
use Rattle.events.specs.declared.event.Event.TheVariants as event
use Rattle.events.specs.declared.event.Holder.TheVariants as holder
use Rattle.totals.specs.LookBack.{Game, owner_of}
use Rattle.purchases.proofs.ConsentLemmas.{companies_agree, owners_agree}
use Rattle.purchases.specs.ConsentLaws.{CompanyAgrees, OwnerAgrees}
use Rattle.purchases.specs.Train.{purchase_of, train_judgement, train_purchase_cost, with_trade}
use Rattle.purchases.specs.Private.{private_judgement}
use Rattle.purchases.specs.SaleLaws.{IsAgreed, IsGiven}
use Rattle.order_grammar.specs.declared.order.TrainSource.{TrainSource}
use Rattle.order_grammar.specs.declared.order.TrainSource.TheVariants as source
use Rattle.tables.specs.declared.rolling_stock.Kind.{Kind}
use Rattle.tables.specs.declared.roster.Company.{Company}
use Rattle.tables.specs.declared.roster.Private.{Private}
use Rattle.tables.specs.declared.seat.Seat.{Seat}

-- who agrees by a game agrees by its list, at a table of any size
company_agrees : (game : Game) (seller buyer : Company) (kind : Kind) (price : ℕ) →
    CompanyAgrees game seller buyer kind price →
    (seats : ℕ) → CompanyAgrees (record { seats = seats; events = game.events }) seller buyer kind price
company_agrees game seller buyer kind price by seats =
    record {
      giver = by.giver;
      taker = by.taker;
      presides = by.presides;
      leads = by.leads;
      agrees = by.agrees;
      priced = by.priced;
      has = by.has;
      another = by.another;
    }

owner_agrees : (game : Game) (buyer : Company) (private : Private) (price : ℕ) → OwnerAgrees game buyer private price →
    (seats : ℕ) → OwnerAgrees (record { seats = seats; events = game.events }) buyer private price
owner_agrees game buyer private price by seats =
    record { giver = by.giver; taker = by.taker; owns = by.owns; leads = by.leads; agrees = by.agrees }

-- a train is agreed
pub train_agreed : (company : Company) (game : Game) (kind : Kind) (from : TrainSource) →
    train_judgement game company (purchase_of kind from) ≡ None →
    IsAgreed (with_trade game company (purchase_of kind from).trade_in).events
    (event.Train company (purchase_of kind from).kind (purchase_of kind from).from (train_purchase_cost (purchase_of kind from)))
train_agreed company game kind source.Bank none = tt
train_agreed company game kind (source.Trade trade_in) none = tt
train_agreed company game kind source.BankPool none = tt
train_agreed company game kind (source.Company seller price) none =
    company_agrees game seller company kind price (companies_agree game company seller kind price none)

-- so is a private of a seat
pub private_agreed : (company : Company) (game : Game) (private : Private) (price : ℕ) (seller : Seat) →
    owner_of game.events private ≡ Some (holder.Seat seller) → private_judgement game company private price ≡ None →
    IsGiven game.events seller company private price
private_agreed company game private price seller owns none =
    record {
      owns = owns;
      agreed = owner_agrees game company private price (owners_agree game company private price none);
    }
