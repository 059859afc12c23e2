-- A company at the start of its orders in an operating round that comes: the privates have paid,
-- each company before it has had its turn, and its home token lies. It is what play comes to if
-- nobody has orders, or only one player has.
use Rattle.std.specs.Prelude.{◌≡◌, Bool, false, ◌||◌, List, [], ◌∷◌, Some, None}
use Rattle.foresight.specs.Ahead.{AheadState, HasTurn, IsBehindDraft}
use Rattle.foresight.specs.declared.round_ahead.Ahead.{Ahead}
use Rattle.foresight.specs.declared.round_ahead.Ahead.TheVariants.{AtOrders, NoPresident, NoTurn}
use Rattle.market.specs.OperatingOrder.{next_company}
use Rattle.tables.specs.Roster.{same_company}
use Rattle.tables.specs.declared.roster.Company.{Company}
use Rattle.tables.specs.declared.seat.Seat.{Seat}
use Rattle.totals.specs.Shares.{president_of}

-- these companies take their turns, one after another, each as the next
abbrev pub HaveTurns : List Company → AheadState → AheadState → Type 0
HaveTurns [] old new = old ≡ new
HaveTurns (company ∷ others) old new =
    (mid : AheadState) × (next_company old.game.events ≡ Some company) × HasTurn company old mid
    × HaveTurns others mid new

-- a company is one of these
abbrev pub is_among : Company → List Company → Bool
is_among company [] = false
is_among company (other ∷ others) = same_company other company || is_among company others

-- other companies have taken their turns
pub record OthersHaveTurns (company : Company) (old new : AheadState) : Type 0 where
  pub before : List Company
  pub turns : HaveTurns before old new
  pub others : is_among company before ≡ false

-- a company that comes next, by its president, if it has one: it is at the start of its orders, or
-- behind those that are looked at
abbrev pub IsLed : Company → AheadState → Ahead → Type 0
IsLed company ahead (AtOrders orders) =
    (president : Seat) × (president_of ahead.game.events company ≡ Some president)
    × IsBehindDraft ahead (record { company = company; president = president }) orders
IsLed company ahead NoPresident = president_of ahead.game.events company ≡ None
IsLed company ahead NoTurn = ⊥

-- other companies have had their turns, and this one comes next
pub record ComesToOrders (company : Company) (opened : AheadState) (found : Ahead) : Type 0 where
  pub mid : AheadState
  pub taken : OthersHaveTurns company opened mid
  pub is_next : next_company mid.game.events ≡ Some company
  pub led : IsLed company mid found

-- all turns of the round are taken, or a president is bankrupt, and no turn was the company's
pub record HasNoTurn (company : Company) (opened : AheadState) : Type 0 where
  pub last : AheadState
  pub taken : OthersHaveTurns company opened last
  pub over : next_company last.game.events ≡ None

-- how a company fares in a round that comes
abbrev pub IsAhead : Company → AheadState → Ahead → Type 0
IsAhead company opened NoTurn = HasNoTurn company opened
IsAhead company opened found = ComesToOrders company opened found
