-- From the text of `lays --lines`, and of `best`, to the report.
use Rattle.std.specs.Borrow.{Bor}
use Rattle.std.specs.Prelude.{◌≡◌, ℕ, ◌<◌, true, false, List, [], ◌∷◌, ◌++◌, None, length}
use Rattle.std.specs.List.{flat_map}
use Rattle.desk_moves.specs.Answers.{IsAnswer, are_lines}
use Rattle.desk_moves.specs.BestRuns.{best_head}
use Rattle.desk_moves.specs.Lines.{lay_line, token_line}
use Rattle.desk_moves.specs.declared.questions.LayForm.{LayForm}
use Rattle.desk_moves.specs.declared.questions.Question.TheVariants.{Best, Lays}
use Rattle.desk_promise.specs.CompanyLines.{IsReportedSo, LaysAreTrue, TokensAreTrue, obeyed}
use Rattle.desk_promise.specs.LineFile.{IsEnded}
use Rattle.desk_promise.specs.LinesTold.{IsOperating}
use Rattle.events.specs.declared.event.Event.TheVariants as event
use Rattle.foresight.specs.Ahead.{OrdersState, opened_state}
use Rattle.foresight.specs.Orders.{IsAhead}
use Rattle.foresight.specs.declared.round_ahead.Ahead.TheVariants.{AtOrders}
use Rattle.map_tables.specs.declared.lay.Lay.{Lay}
use Rattle.map_tables.specs.declared.place.Place.{Place}
use Rattle.moves.specs.declared.priced.Priced.{Priced}
use Rattle.order_grammar.specs.Spells.{is_round_of_line}
use Rattle.order_grammar.specs.declared.play.PlayOrder.TheVariants.{RunBest}
use Rattle.purchases.specs.Train.{has_trains}
use Rattle.rounds.specs.Play.{Between, Plays}
use Rattle.rounds.specs.declared.following.Next.TheVariants as next
use Rattle.sheets.specs.File.{IsAccepted, players_of}
use Rattle.tables.specs.declared.rolling_stock.Kind.{Kind}
use Rattle.tables.specs.declared.roster.Company.{Company}
use Rattle.tables.specs.declared.round.Round.{Round}
use Rattle.totals.specs.LookBack.{Game}

-- a text has the lines of lays and of tokens that are as the reports say, and all of them
pub record AreTrueLays (file : List ℕ) (game : Game) (round : Round) (orders : OrdersState) (text : List ℕ) : Type 0 where
  pub lays : List (Priced Lay)
  pub tokens : List (Priced Place)
  pub is : text ≡ flat_map lay_line lays ++ flat_map token_line tokens
  pub lays_true : LaysAreTrue file game round orders lays
  pub tokens_true : TokensAreTrue file game round orders tokens

-- the text is about the round that the game of the file awaits, and about a company at the start of its
-- orders in it
pub record TellsLays (file : List ℕ) (company : Company) (text : List ℕ) : Type 0 where
  pub last : Between
  pub plays : Plays file last
  pub round : Round
  pub comes : last.next ≡ next.Round round
  pub orders : OrdersState
  pub ahead : IsAhead company (opened_state file None round last.game) (AtOrders orders)
  pub lines : IsOperating round → is_round_of_line round ≡ true → orders.by.president.0 < length (players_of file)
      → AreTrueLays file last.game round orders text

-- what lays --lines writes without a draft tells the truth
abbrev pub LaysLinesAreReported : Type 0
LaysLinesAreReported =
    (file : List ℕ) (company : Company) (form : LayForm) (text : List ℕ)
    → IsAccepted file → IsEnded file → are_lines form ≡ true → form.drafted ≡ false
    → IsAnswer file None (Lays company form) text → TellsLays file company text

-- the text of best, of a company's own trains, is about the same, and begins with the revenue that RUN
-- BEST credits, if the company has a train
pub record TellsBest (file : List ℕ) (company : Company) (text : List ℕ) : Type 0 where
  pub last : Between
  pub plays : Plays file last
  pub round : Round
  pub comes : last.next ≡ next.Round round
  pub orders : OrdersState
  pub ahead : IsAhead company (opened_state file None round last.game) (AtOrders orders)
  pub revenue : ℕ
  pub runs : List ℕ
  pub is : text ≡ best_head company revenue ++ runs
  pub credited : IsOperating round → is_round_of_line round ≡ true → orders.by.president.0 < length (players_of file)
      → has_trains orders.turn.game.events orders.by.company ≡ true
      → IsReportedSo file last.game round orders.by RunBest orders.turn.game
      (obeyed orders.by RunBest ∷ event.Runs orders.by.company revenue ∷ [])

-- what best writes tells the truth
abbrev pub BestTextIsReported : Type 0
BestTextIsReported =
    (file : List ℕ) (company : Company) (trains : Bor (List Kind)) (text : List ℕ)
    → IsAccepted file → IsEnded file → trains.now ≡ [] → IsAnswer file None (Best company trains) text
    → TellsBest file company text
