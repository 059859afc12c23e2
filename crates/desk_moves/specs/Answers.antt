-- Which text answers a question in the game before the coming round: exactly these lines, if order lines are asked for. Any
-- other answer is written for a reader.
use Rattle.std.specs.Prelude.{◌≡◌, ℕ, Bool, true, not, ◌&&◌, if◌then◌else◌, List, [], ◌++◌, Option, Some, None, ⊤}
use Rattle.std.specs.Str.{str_eq_ignore_ascii_case}
use Rattle.desk_may.specs.OperatingLines.{AddsOperatingLines}
use Rattle.desk_may.specs.SheetLines.{standing_lines, turn_lines}
use Rattle.desk_moves.specs.BestRuns.{AreBestRuns}
use Rattle.desk_moves.specs.Coming.{AreOrdersIn}
use Rattle.desk_moves.specs.Lines.{AreLines}
use Rattle.desk_base.specs.Played.{moment_after}
use Rattle.desk_base.specs.Positions.{IsAt}
use Rattle.desk_base.specs.declared.positions.Position.{Position}
use Rattle.desk_moves.specs.declared.questions.LayForm.{LayForm}
use Rattle.desk_moves.specs.declared.questions.Question.{Question}
use Rattle.desk_moves.specs.declared.questions.Question.TheVariants.{Best, Lays, May}
use Rattle.foresight.specs.Ahead.{OrdersState}
use Rattle.foresight.specs.Turn.{IsAtHead, IsBehindOpening, IsBehindStock}
use Rattle.foresight.specs.declared.turn_ahead.TurnAhead.{TurnAhead}
use Rattle.report.specs.Line.{name_of}
use Rattle.rounds.specs.declared.game.End.TheVariants.{Awaiting}
use Rattle.tables.specs.declared.rolling_stock.Kind.{Kind}
use Rattle.tables.specs.declared.roster.Company.{Company}
use Rattle.tables.specs.declared.round.Round.{Round}
use Rattle.tables.specs.declared.round.Round.TheVariants.{Opening, Operating}
use Rattle.tables.specs.declared.seat.Seat.{Seat}
use Rattle.totals.specs.LookBack.{Game}
use Rattle.totals.specs.Shares.{president_of}

-- whose sheet is looked at: that of the company's president, or of the player, if a draft is asked for
abbrev pub drafter_for : Bool → Option Seat → Option Seat
drafter_for drafted seat = if drafted then seat else None

-- these are the lines of the lays and tokens of a company, at the turn that is asked about
pub record AreLaysOf (coming : Position) (company : Company) (drafted : Bool) (text : List ℕ) : Type 0 where
  pub orders : OrdersState
  pub are_orders : AreOrdersIn coming company (drafter_for drafted (president_of coming.history.events company)) orders
  pub are_lines : AreLines orders.turn orders.by.company text

-- a turn of a seat in the opening or stock round that comes: at its head, or behind its lines if its sheet is looked at
abbrev pub IsTurnIn : Option Seat → List ℕ → Game → Round → Seat → TurnAhead → Type 0
IsTurnIn None file game round seat turn = IsAtHead round seat game turn
IsTurnIn (Some drafter) file game (Opening number) seat turn = IsBehindOpening file (Opening number) seat game turn
IsTurnIn (Some drafter) file game other seat turn = IsBehindStock file other seat game turn

-- a seat's standing lines, and those of its turn, are added to a text
pub record AddsTurnLines (drafter : Option Seat) (file : List ℕ) (game : Game) (round : Round) (seat : Seat)
    (old new : List ℕ) : Type 0 where
  pub turn : TurnAhead
  pub is_turn : IsTurnIn drafter file game round seat turn
  pub is : new ≡ (old ++ standing_lines file game round seat) ++ turn_lines file turn round seat

-- the lines of a seat for the round that comes are added to a text
abbrev pub AddsLinesIn : Option Seat → List ℕ → Game → Round → Seat → List ℕ → List ℕ → Type 0
AddsLinesIn drafter file game (Operating set number) seat old new =
    AddsOperatingLines file drafter (Operating set number) seat game old new
AddsLinesIn drafter file game other seat old new = AddsTurnLines drafter file game other seat old new

-- these are the lines of the player who is asked about, by a name in capital or small letters
pub record AreLinesOf (coming : Position) (name : List ℕ) (drafted : Bool) (text : List ℕ) : Type 0 where
  pub seat : Seat
  pub named : str_eq_ignore_ascii_case (name_of coming.sheets.now seat) name ≡ true
  pub round : Round
  pub awaited : coming.end ≡ Awaiting round
  pub are : AddsLinesIn (drafter_for drafted (Some seat)) coming.sheets.now coming.history round seat [] text

-- these are the best runs of a company, at the start of its orders in the coming round, with these
-- trains, or with its own
pub record AreBestOf (coming : Position) (company : Company) (named : List Kind) (text : List ℕ) : Type 0 where
  pub orders : OrdersState
  pub are_orders : AreOrdersIn coming company None orders
  pub are : AreBestRuns orders.turn.game company named text

-- lays are asked for as lines, without what the best runs would earn
abbrev pub are_lines : LayForm → Bool
are_lines form = form.lines && not form.best

-- a text answers a question
abbrev pub Answers : Position → Question → List ℕ → Type 0
Answers coming (Lays company form) text = are_lines form ≡ true → AreLaysOf coming company form.drafted text
Answers coming (May name form) text = form.lines ≡ true → AreLinesOf coming name.now form.drafted text
Answers coming (Best company trains) text = AreBestOf coming company trains.now text
Answers coming other text = ⊤

-- a text answers a question in the game before the round that comes
pub record IsAnswer (file : List ℕ) (after : Option Round) (question : Question) (text : List ℕ) : Type 0 where
  pub coming : Position
  pub is_coming : IsAt file (moment_after after) coming
  pub answers : Answers coming question text
