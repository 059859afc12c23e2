-- EXCHANGE: the owner of MH gives it up for a share of NYC, even before NYC is started. The share
-- comes from the initial offering, or from the bank pool if the initial offering has none. The owner
-- may not hold more than six shares then, if the zone of NYC's square limits that. It costs nothing.
use Rattle.std.specs.Prelude.{◌≡◌, Bool, false, not, ◌||◌, if◌then◌else◌, List, [], ◌∷◌, Option, pos}
use Rattle.std.specs.Int.Signed.{lt_z}
use Rattle.certs.specs.Purchase.{is_over_six}
use Rattle.certs.specs.SaleAct.{with_president}
use Rattle.events.specs.declared.event.Event.{Event}
use Rattle.events.specs.declared.event.Event.TheVariants as event
use Rattle.events.specs.declared.event.Shareholder.TheVariants.{InitialOffering, BankPool}
use Rattle.events.specs.declared.ruling.StockRule.{StockRule}
use Rattle.events.specs.declared.ruling.StockRule.TheVariants.{NoExchange}
use Rattle.totals.specs.LookBack.{Game, is_owner, owner_of, with_event}
use Rattle.totals.specs.Shares.{shares_of}
use Rattle.order_grammar.specs.declared.order.ShareSource.{ShareSource}
use Rattle.order_grammar.specs.declared.order.ShareSource.TheVariants as source
use Rattle.stock_round.specs.Float.{with_float}
use Rattle.tables.specs.Rules.{Rule, first_broken}
use Rattle.tables.specs.declared.roster.Company.TheVariants.{NewYorkCentral}
use Rattle.tables.specs.declared.roster.Private.TheVariants.{MohawkHudson}
use Rattle.tables.specs.declared.seat.Seat.{Seat}

-- there is a share of NYC in the initial offering
abbrev pub is_offered : List Event → Bool
is_offered events = lt_z (pos 0) (shares_of events NewYorkCentral InitialOffering)

-- there is one in the bank pool
abbrev pub is_pooled : List Event → Bool
is_pooled events = lt_z (pos 0) (shares_of events NewYorkCentral BankPool)

-- The seat may not give up MH for a share of NYC. It does not own MH, or neither the initial
-- offering nor the pool has one, or the seat would hold more than six shares with this 1 more.
abbrev pub is_no_exchange : List Event → Seat → Bool
is_no_exchange events seat = not (is_owner seat (owner_of events MohawkHudson))
    || (not (is_offered events || is_pooled events) || is_over_six events seat NewYorkCentral 1)

-- the rule that an exchange may break
abbrev pub exchange_rules : List Event → Seat → List (Rule StockRule)
exchange_rules events seat = record { code = NoExchange; broken = is_no_exchange events seat } ∷ []

-- the first rule that a seat breaks by an exchange
abbrev pub exchange_judgement : Game → Seat → Option StockRule
exchange_judgement game seat = first_broken (exchange_rules game.events seat)

-- the seat can give up MH for a share of NYC
abbrev pub MayExchange : Game → Seat → Type 0
MayExchange game seat = is_no_exchange game.events seat ≡ false

-- where the share of NYC for MH comes from: the initial offering first, otherwise the bank pool
abbrev pub exchange_source : List Event → ShareSource
exchange_source events = if is_offered events then source.InitialOffering else source.BankPool

-- after a seat has given up MH for a share of NYC
abbrev pub exchanged : Game → Seat → Game
exchanged game seat = with_event game (event.Exchanged seat (exchange_source game.events))

-- after a seat has done so, and what follows from it
abbrev pub after_exchange : Game → Seat → Game
after_exchange game seat = with_float (with_president (exchanged game seat) NewYorkCentral) NewYorkCentral
