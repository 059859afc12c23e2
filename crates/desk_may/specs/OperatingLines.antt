-- The rows of a player as the lines of a sheet for a coming operating round: the standing lines, and for each company over
-- which the player presides by its turn, in operating order, COMPANY and its orders. Trains are judged once the company has
-- withheld, since a TRAIN line withholds first; there are RAISE lines if the company must buy a train.
use Rattle.std.specs.Prelude.{◌≡◌, ℕ, zero, suc, ◌⊎◌, true, false, List, [], ◌∷◌, ◌++◌, map, Option, Some, None, codes}
use Rattle.desk_may.specs.Offerers.{presidents_of}
use Rattle.desk_may.specs.RaiseRows.{raise_row, raises}
use Rattle.desk_may.specs.RowLines.{offered_lines, row_lines}
use Rattle.forced_purchase.specs.declared.operator.Operator.{Operator}
use Rattle.foresight.specs.Ahead.{AheadState, HasEnded, HasTurn, IsBehindDraft, OrdersState, opened_state, withheld_in}
use Rattle.market.specs.OperatingOrder.{next_company}
use Rattle.moves.specs.CompanyRows.{private_orders, private_row, train_orders, train_row}
use Rattle.moves.specs.StandingRows.{standing_rows}
use Rattle.moves.specs.declared.row.Row.{Row}
use Rattle.operating.specs.TurnEnd.{IsDue}
use Rattle.purchases.specs.Discard.{is_president}
use Rattle.tables.specs.Roster.{code_of_company}
use Rattle.tables.specs.declared.roster.Company.{Company}
use Rattle.tables.specs.declared.round.Round.{Round}
use Rattle.tables.specs.declared.seat.Seat.{Seat}
use Rattle.totals.specs.LookBack.{Game}
use Rattle.totals.specs.Shares.{president_of}

-- the head of a company's orders
abbrev pub company_head : Company → List ℕ
company_head company = codes "COMPANY " ++ code_of_company company ++ 10 ∷ []

-- the rows of trains of the bank, the pool and other companies
abbrev pub train_rows_of : Game → Company → List Row
train_rows_of game company = map (train_row game company) (train_orders game.events)

-- their lines, where these presided as the round began
abbrev pub train_lines : List (Option Seat) → OrdersState → List ℕ
train_lines presidents orders =
    offered_lines presidents orders.file (train_rows_of orders.turn.game orders.by.company)

-- the rows of privates
abbrev pub private_rows_of : Game → Company → List Row
private_rows_of game company = map (private_row game company) private_orders

-- the rows of RAISE lines
abbrev pub raise_rows_of : Game → Operator → List Row
raise_rows_of game by = map (raise_row game by) (raises game.events by.president)

-- their lines
abbrev pub raise_lines : OrdersState → List ℕ
raise_lines orders = row_lines orders.file (raise_rows_of orders.turn.game orders.by)

-- the lines of RAISE, if the company must buy a train; otherwise none
abbrev pub AreRaiseLines : OrdersState → List ℕ → Type 0
AreRaiseLines orders lines =
    (IsDue orders.turn.game orders.by.company × (lines ≡ raise_lines orders))
    ⊎ ((¬ IsDue orders.turn.game orders.by.company) × (lines ≡ []))

-- the lines of a company at the start of its orders, or after those that are drafted
pub record AreCompanyLines (presidents : List (Option Seat)) (orders : OrdersState) (lines : List ℕ) : Type 0 where
  pub raised : List ℕ
  pub due : AreRaiseLines (withheld_in orders) raised
  pub all : lines ≡ company_head orders.by.company ++ train_lines presidents (withheld_in orders)
      ++ row_lines orders.file (private_rows_of orders.turn.game orders.by.company) ++ raised

-- those lines are added to a text
pub record AddsOrders (presidents : List (Option Seat)) (orders : OrdersState) (old new : List ℕ) : Type 0 where
  pub lines : List ℕ
  pub written : AreCompanyLines presidents orders lines
  pub added : new ≡ old ++ lines

-- the turn of a company over which a seat presides, with its lines
pub record IsOwnTurn (presidents : List (Option Seat)) (by : Operator) (old new : AheadState) (lines : List ℕ) : Type 0 where
  pub orders : OrdersState
  pub behind : IsBehindDraft old by orders
  pub written : AreCompanyLines presidents orders lines
  pub ended : HasEnded (withheld_in orders) new

-- the turn of a company over which a seat presides, or of another company, of which nothing is written
abbrev pub IsTurnWritten : List (Option Seat) → Seat → Company → AheadState → AheadState → List ℕ → Type 0
IsTurnWritten presidents seat company old new lines =
    ((is_president (president_of old.game.events company) seat ≡ true)
    × IsOwnTurn presidents (record { company = company; president = seat }) old new lines)
    ⊎ ((is_president (president_of old.game.events company) seat ≡ false) × HasTurn company old new × (lines ≡ []))

-- its lines are added to a text
pub record AddsTurn (presidents : List (Option Seat)) (seat : Seat) (company : Company) (before after : AheadState)
    (old new : List ℕ) : Type 0 where
  pub lines : List ℕ
  pub written : IsTurnWritten presidents seat company before after lines
  pub added : new ≡ old ++ lines

-- so many companies have had their turns, each as the next, with these lines
abbrev pub HaveTurnsWritten : List (Option Seat) → Seat → ℕ → AheadState → AheadState → List ℕ → Type 0
HaveTurnsWritten presidents seat zero opened now lines = (now ≡ opened) × (lines ≡ [])
HaveTurnsWritten presidents seat (suc count) opened now lines =
    (mid : AheadState) × (before : List ℕ) × (own : List ℕ) × (company : Company)
    × HaveTurnsWritten presidents seat count opened mid before × (next_company mid.game.events ≡ Some company)
    × IsTurnWritten presidents seat company mid now own × (lines ≡ before ++ own)

-- all companies have had their turns, with these lines: there are eight, or no company comes next
pub record AreTurnsWritten (presidents : List (Option Seat)) (seat : Seat) (opened : AheadState) (lines : List ℕ)
    : Type 0 where
  pub count : ℕ
  pub last : AheadState
  pub turns : HaveTurnsWritten presidents seat count opened last lines
  pub over : (count ≡ 8) ⊎ (next_company last.game.events ≡ None)

-- those lines are added to a text
pub record AddsTurns (presidents : List (Option Seat)) (seat : Seat) (opened : AheadState) (old new : List ℕ)
    : Type 0 where
  pub lines : List ℕ
  pub written : AreTurnsWritten presidents seat opened lines
  pub added : new ≡ old ++ lines

-- the lines of a seat for an operating round that comes are added to a text
pub record AddsOperatingLines (file : List ℕ) (drafter : Option Seat) (round : Round) (seat : Seat) (game : Game)
    (old new : List ℕ) : Type 0 where
  pub turns : List ℕ
  pub written : AreTurnsWritten (presidents_of game.events) seat (opened_state file drafter round game) turns
  pub added : new ≡ old ++ row_lines file (standing_rows game.events seat round) ++ turns
