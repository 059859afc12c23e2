-- The turns of the companies in an operating round that comes, in operating order: of each company that is asked for what it
-- may lay, place and buy, at the start of its orders if nobody orders anything before. Trains are
-- those once it has withheld, since a TRAIN line withholds first. What its runs bring is by the
-- game at the start of its orders.
use Rattle.std.specs.Prelude.{◌≡◌, ◌↔◌, ◌⊎◌, ◌==◌, ◌||◌, ℕ, zero, suc, Bool, true, false, IsTrue, Some, None}
use Rattle.std.specs.Prelude.{List, [], ◌∷◌, ◌++◌, length, map}
use Rattle.std.specs.List.{list_any}
use Rattle.desk_may.specs.OperatingLines.{private_rows_of, train_rows_of}
use Rattle.forced_purchase.specs.declared.operator.Operator.{Operator}
use Rattle.foresight.specs.Ahead.{AheadState, HasEnded, HasTurn, IsBehindDraft, OrdersState, withheld_in}
use Rattle.market.specs.OperatingOrder.{next_company}
use Rattle.operating.specs.TurnEnd.{IsDue}
use Rattle.page_lays.specs.Earned.{earned_by}
use Rattle.page_lays.specs.MoveRows.{AreMovesIn, row_of}
use Rattle.page_lays.specs.declared.company_turns.Turn.{Turn}
use Rattle.tables.specs.Roster.{same_company}
use Rattle.tables.specs.declared.roster.Company.{Company}
use Rattle.tables.specs.declared.seat.Seat.{Seat}
use Rattle.totals.specs.Shares.{president_of}

-- a company is asked for: none is named, or it is among these
abbrev pub is_wanted : List Company → Company → Bool
is_wanted companies company = (length companies == 0) || list_any (same_company company) companies

-- what is told of a company at the start of its orders
pub record IsTold (orders : OrdersState) (turn : Turn) : Type 0 where
  pub by : turn.by ≡ orders.by
  pub moves : AreMovesIn orders.turn orders.by.company (map row_of turn.map.lines.items)
  pub privates : turn.head.privates.items ≡ private_rows_of orders.turn.game orders.by.company
  pub trains : turn.trains.items ≡ train_rows_of (withheld_in orders).turn.game orders.by.company
  pub earned : turn.earned ≡ earned_by orders.turn.game orders.by
  pub must_buy : IsTrue turn.must_buy ↔ IsDue (withheld_in orders).turn.game orders.by.company

-- the turn of a company of which is told, by its president
pub record IsToldTurn (by : Operator) (old new : AheadState) (turn : Turn) : Type 0 where
  pub orders : OrdersState
  pub led : president_of old.game.events by.company ≡ Some by.president
  pub behind : IsBehindDraft old by orders
  pub told : IsTold orders turn
  pub ended : HasEnded (withheld_in orders) new

-- that turn is added to a list
pub record AddsTurnBy (by : Operator) (before after : AheadState) (old new : List Turn) : Type 0 where
  pub turn : Turn
  pub its : IsToldTurn by before after turn
  pub added : new ≡ old ++ turn ∷ []

-- the turn of a company: told, if it is asked for; or another, since it is not asked for or has no president
abbrev pub IsTurnIn : (Company → Bool) → Company → AheadState → AheadState → List Turn → Type 0
IsTurnIn is_asked company old new turns =
    ((is_asked company ≡ true) × (president : Seat) × (turn : Turn)
    × IsToldTurn (record { company = company; president = president }) old new turn × (turns ≡ turn ∷ []))
    ⊎ (((is_asked company ≡ false) ⊎ (president_of old.game.events company ≡ None)) × HasTurn company old new
    × (turns ≡ []))

-- its turn is added to a list
pub record AddsTurn (is_asked : Company → Bool) (company : Company) (before after : AheadState) (old new : List Turn)
    : Type 0 where
  pub turns : List Turn
  pub its : IsTurnIn is_asked company before after turns
  pub added : new ≡ old ++ turns

-- so many companies have had their turns, each as the next
abbrev pub HaveTurnsIn : (Company → Bool) → ℕ → AheadState → AheadState → List Turn → Type 0
HaveTurnsIn is_asked zero opened now turns = (now ≡ opened) × (turns ≡ [])
HaveTurnsIn is_asked (suc count) opened now turns =
    (mid : AheadState) × (before : List Turn) × (own : List Turn) × (company : Company)
    × HaveTurnsIn is_asked count opened mid before × (next_company mid.game.events ≡ Some company)
    × IsTurnIn is_asked company mid now own × (turns ≡ before ++ own)

-- all companies have had their turns: there are eight, or no company comes next
pub record AreTurnsIn (is_asked : Company → Bool) (opened : AheadState) (turns : List Turn) : Type 0 where
  pub count : ℕ
  pub last : AheadState
  pub have : HaveTurnsIn is_asked count opened last turns
  pub over : (count ≡ 8) ⊎ (next_company last.game.events ≡ None)

-- those turns are added to a list
pub record AddsTurns (is_asked : Company → Bool) (opened : AheadState) (old new : List Turn) : Type 0 where
  pub turns : List Turn
  pub are : AreTurnsIn is_asked opened turns
  pub added : new ≡ old ++ turns
