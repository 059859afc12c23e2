-- An operating round that comes, as far as it has been played, and a company's turn in it, as far as its orders have been
-- ruled.
use Rattle.std.specs.Prelude.{◌≡◌, ℕ, List, Option}
use Rattle.forced_purchase.specs.Raise.{raises_in}
use Rattle.forced_purchase.specs.declared.operator.Operator.{Operator}
use Rattle.foresight.specs.Draft.{file_of, opened_ahead, orders_of}
use Rattle.operating.specs.CompanyOrders.{LinesLead}
use Rattle.operating.specs.Pay.{withheld_if_unpaid}
use Rattle.operating.specs.Turn.{IsCompanyTurn, begun}
use Rattle.operating.specs.TurnEnd.{EndLeads}
use Rattle.operating.specs.TurnState.{TurnState}
use Rattle.sheets.specs.Part.{Numbered}
use Rattle.tables.specs.declared.roster.Company.{Company}
use Rattle.tables.specs.declared.round.Round.{Round}
use Rattle.tables.specs.declared.seat.Seat.{Seat}
use Rattle.totals.specs.LookBack.{Game}
use Rattle.totals.specs.Shares.{president_of}

-- the order file and whose sheet of it is looked at, the round, and the game so far
pub record AheadState : Type 0 where
  pub file : List ℕ
  pub drafter : Option Seat
  pub round : Round
  pub game : Game

-- a round that has just been opened
abbrev pub opened_state : List ℕ → Option Seat → Round → Game → AheadState
opened_state file drafter round old =
    record { file = file; drafter = drafter; round = round; game = opened_ahead file drafter round old }

-- the same round with this game
abbrev pub with_game : AheadState → Game → AheadState
with_game ahead game = record { file = ahead.file; drafter = ahead.drafter; round = ahead.round; game = game }

-- a company has taken its turn, with the orders of the sheet that is looked at, if its president sent that
pub record HasTurn (company : Company) (old new : AheadState) : Type 0 where
  pub same : new ≡ with_game old new.game
  pub turn : IsCompanyTurn (file_of old.file (president_of old.game.events company) old.drafter) old.round company
      old.game new.game

-- a company's turn in such a round: by whom, its game and how far it has come, and the RAISE lines so far
pub record OrdersState : Type 0 where
  pub file : List ℕ
  pub drafter : Option Seat
  pub round : Round
  pub by : Operator
  pub turn : TurnState
  pub raises : List Numbered

-- the orders that are looked at
abbrev pub drafted_in : AheadState → Operator → List Numbered
drafted_in ahead by = orders_of ahead.file ahead.drafter ahead.round by

-- a company is behind the orders that are looked at, or at the start of its orders if none are
pub record IsBehindDraft (ahead : AheadState) (by : Operator) (orders : OrdersState) : Type 0 where
  pub file : orders.file ≡ ahead.file
  pub drafter : orders.drafter ≡ ahead.drafter
  pub round : orders.round ≡ ahead.round
  pub its : orders.by ≡ by
  pub turn : LinesLead by (begun ahead.game by.company) (drafted_in ahead by) orders.turn
  pub raises : orders.raises ≡ raises_in (drafted_in ahead by)

-- the turn stands elsewhere
abbrev pub with_turn : OrdersState → TurnState → OrdersState
with_turn orders turn =
    record {
      file = orders.file;
      drafter = orders.drafter;
      round = orders.round;
      by = orders.by;
      turn = turn;
      raises = orders.raises;
    }

-- with what the company withholds by itself, if its turn is not past its pay
abbrev pub withheld_in : OrdersState → OrdersState
withheld_in orders = with_turn orders (withheld_if_unpaid orders.by.company orders.turn)

-- the turn has ended: the company has withheld if it had neither paid nor withheld, and bought a train if it must
pub record HasEnded (orders : OrdersState) (new : AheadState) : Type 0 where
  pub file : new.file ≡ orders.file
  pub drafter : new.drafter ≡ orders.drafter
  pub round : new.round ≡ orders.round
  pub ends : EndLeads orders.by orders.raises (withheld_if_unpaid orders.by.company orders.turn).game new.game
