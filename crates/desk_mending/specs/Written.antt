-- What a player's own sheet orders beside a line, which may be obeyed if others order something. A line counts whether its
-- condition holds or not, and whether it is refused as things stand or not.
use Rattle.std.specs.Prelude.{Bool, true, false}
use Rattle.order_grammar.specs.declared.order.Offer.{Offer}
use Rattle.order_grammar.specs.declared.order.Offer.TheVariants as offer
use Rattle.order_grammar.specs.declared.order.TrainSource.{TrainSource}
use Rattle.order_grammar.specs.declared.order.TrainSource.TheVariants as source
use Rattle.order_grammar.specs.declared.play.PlayOrder.{PlayOrder}
use Rattle.order_grammar.specs.declared.play.PlayOrder.TheVariants as play
use Rattle.tables.specs.Roster.{same_company}
use Rattle.tables.specs.Train.{same_kind}
use Rattle.tables.specs.declared.roster.Company.{Company}
use Rattle.tables.specs.declared.roster.Company.TheVariants.{NewYorkCentral}
use Rattle.tables.specs.declared.rolling_stock.Kind.{Kind}

-- it sells shares of a company
abbrev pub sells_of : Company → PlayOrder → Bool
sells_of company (play.Sell its shares) = same_company company its
sells_of company other = false

-- it sells shares, or gives up MH: after it fewer certificates may count
abbrev pub lessens : PlayOrder → Bool
lessens (play.Sell company shares) = true
lessens play.ExchangeMohawk = true
lessens other = false

-- it brings shares of a company
abbrev pub brings_of : Company → PlayOrder → Bool
brings_of company (play.Par its price) = same_company company its
brings_of company (play.BuyShare its from) = same_company company its
brings_of company play.ExchangeMohawk = same_company company NewYorkCentral
brings_of company other = false

-- a train comes from this company
abbrev pub is_from : Company → TrainSource → Bool
is_from company source.Bank = false
is_from company (source.Trade kind) = false
is_from company source.BankPool = false
is_from company (source.Company its price) = same_company company its

-- a train of this company is offered
abbrev pub offers_of : Company → Offer → Bool
offers_of company (offer.Private private buyer price) = false
offers_of company (offer.Train kind its buyer price) = same_company company its

-- by it a company may part with a train: another company buys one of it, or it is offered
abbrev pub parts_of : Company → PlayOrder → Bool
parts_of company (play.BuyTrain kind from) = is_from company from
parts_of company (play.Offer its) = offers_of company its
parts_of company other = false

-- it buys a train of a kind
abbrev pub buys_kind : Kind → PlayOrder → Bool
buys_kind kind (play.BuyTrain its from) = same_kind kind its
buys_kind kind other = false

-- it places a token
abbrev pub places_token : PlayOrder → Bool
places_token (play.Token place) = true
places_token other = false
