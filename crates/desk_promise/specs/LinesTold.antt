-- From the text of `may --lines` to the report. Before an opening or a stock round it has, below the
-- standing lines of the player and TURN, the lines of rows that are all as the reports say, each at the
-- price that it tells. Before an operating round it has below the standing lines the orders of each
-- company over which the player presides: COMPANY, and the lines of such rows of trains and privates.
use Rattle.std.specs.Borrow.{Bor}
use Rattle.std.specs.Prelude.{◌≡◌, ℕ, ◌<◌, true, false, List, ◌++◌, None, codes, length, ⊤}
use Rattle.std.specs.List.{AllByRecursion, flat_map}
use Rattle.std.specs.Str.{str_eq_ignore_ascii_case}
use Rattle.desk_may.specs.OperatingLines.{company_head}
use Rattle.desk_may.specs.RowLines.{row_lines}
use Rattle.desk_may.specs.SheetLines.{standing_lines}
use Rattle.desk_moves.specs.Answers.{IsAnswer}
use Rattle.desk_moves.specs.declared.questions.MayForm.{MayForm}
use Rattle.desk_moves.specs.declared.questions.Question.TheVariants.{May}
use Rattle.desk_promise.specs.CompanyRows.{IsRowReported, once_forced}
use Rattle.desk_promise.specs.LineFile.{HasTurns, IsEnded}
use Rattle.desk_promise.specs.StandingRows.{IsStandingReported}
use Rattle.desk_promise.specs.TurnRows.{IsAsReported}
use Rattle.foresight.specs.Ahead.{OrdersState, opened_state, withheld_in}
use Rattle.foresight.specs.Orders.{IsAhead}
use Rattle.foresight.specs.declared.round_ahead.Ahead.TheVariants.{AtOrders}
use Rattle.moves.specs.StandingRows.{standing_rows}
use Rattle.moves.specs.declared.row.Row.{Row}
use Rattle.order_grammar.specs.Spells.{is_round_of_line}
use Rattle.report.specs.Line.{name_of}
use Rattle.rounds.specs.Play.{Between, Plays}
use Rattle.rounds.specs.declared.following.Next.TheVariants as next
use Rattle.sheets.specs.File.{IsAccepted, players_of}
use Rattle.tables.specs.declared.round.Round.{Round}
use Rattle.tables.specs.declared.round.Round.TheVariants.{Operating}
use Rattle.tables.specs.declared.seat.Seat.{Seat}
use Rattle.totals.specs.LookBack.{Game}

-- a text has the standing lines of a seat, TURN and the lines of rows that are as the reports say
pub record AreTrueLines (file : List ℕ) (game : Game) (round : Round) (seat : Seat) (text : List ℕ) : Type 0 where
  pub rows : List Row
  pub are : text ≡ standing_lines file game round seat ++ (codes "TURN\n" ++ row_lines file rows)
  pub reported : AllByRecursion (IsAsReported file game round seat) rows

-- an operating round
abbrev pub IsOperating : Round → Type 0
IsOperating (Operating set number) = ⊤
IsOperating other = ⊥

-- the lines of a company of a seat, which comes to the head of its orders if nobody has any, are its
-- COMPANY, and the lines of rows of trains, privates and RAISE that are as the reports say
pub record AreTrueOrders (file : List ℕ) (game : Game) (round : Round) (seat : Seat) (lines : List ℕ) : Type 0 where
  pub orders : OrdersState
  pub theirs : orders.by.president ≡ seat
  pub ahead : IsAhead orders.by.company (opened_state file None round game) (AtOrders orders)
  pub trains : List Row
  pub privates : List Row
  pub raises : List Row
  pub are : lines ≡ company_head orders.by.company ++ row_lines file trains ++ row_lines file privates
      ++ row_lines file raises
  pub trains_reported : AllByRecursion (IsRowReported file game round orders.by (withheld_in orders).turn.game) trains
  pub privates_reported : AllByRecursion (IsRowReported file game round orders.by orders.turn.game) privates
  pub raises_reported : AllByRecursion (IsRowReported file game round orders.by (once_forced orders)) raises

-- some texts, one after another
abbrev pub in_one : List (List ℕ) → List ℕ
in_one texts = flat_map (λ text. text) texts

-- a text has the standing lines of a seat, and below them the true lines of its companies
pub record AreTrueCompanies (file : List ℕ) (game : Game) (round : Round) (seat : Seat) (text : List ℕ) : Type 0 where
  pub companies : List (List ℕ)
  pub are : text ≡ standing_lines file game round seat ++ in_one companies
  pub reported : AllByRecursion (AreTrueOrders file game round seat) companies

-- the text is about the round that the game of the file awaits, and about the player of this name: its
-- standing lines are true; if the round is one of turns, so are the lines of the turn, and if it is an
-- operating round, those of the companies
pub record TellsTruth (file name text : List ℕ) : Type 0 where
  pub last : Between
  pub plays : Plays file last
  pub round : Round
  pub comes : last.next ≡ next.Round round
  pub seat : Seat
  pub named : str_eq_ignore_ascii_case (name_of file seat) name ≡ true
  pub standing : is_round_of_line round ≡ true → seat.0 < length (players_of file)
      → AllByRecursion (IsStandingReported file last.game round seat) (standing_rows last.game.events seat round)
  pub lines : HasTurns round → is_round_of_line round ≡ true → seat.0 < length (players_of file)
      → AreTrueLines file last.game round seat text
  pub companies : IsOperating round → is_round_of_line round ≡ true → seat.0 < length (players_of file)
      → AreTrueCompanies file last.game round seat text

-- what may --lines writes without a draft tells the truth
abbrev pub MayLinesAreReported : Type 0
MayLinesAreReported =
    (file : List ℕ) (name : Bor (List ℕ)) (form : MayForm) (text : List ℕ)
    → IsAccepted file → IsEnded file → form.lines ≡ true → form.drafted ≡ false
    → IsAnswer file None (May name form) text → TellsTruth file name.now text
