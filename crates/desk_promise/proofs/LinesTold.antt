-- What may --lines writes tells the truth.
use Rattle.std.proofs.Common.{◌≡◌, ℕ, ◌<◌, Bool, true, false, List, [], length, map, Some, None, sym, subst, ◌∙◌}
use Rattle.std.specs.Prelude.{if◌then◌else◌}
use Rattle.std.specs.Str.{str_eq_ignore_ascii_case}
use Rattle.desk_moves.specs.Answers.{AddsLinesIn, AreLinesOf, drafter_for}
use Rattle.desk_promise.proofs.CompaniesTold.{companies_true}
use Rattle.desk_promise.specs.CompanyRows.{PrivateRowsAreReported, RaiseRowsAreReported, TrainRowsAreReported}
use Rattle.desk_promise.specs.LineFile.{HasTurns, IsEnded}
use Rattle.desk_promise.specs.LinesTold.{AreTrueCompanies, AreTrueLines, IsOperating, MayLinesAreReported}
use Rattle.desk_promise.specs.StandingRows.{StandingRowsAreReported}
use Rattle.desk_promise.specs.TurnRows.{OpeningRowsAreReported, StockRowsAreReported}
use Rattle.events.specs.declared.event.Event.{Event}
use Rattle.market.specs.OperatingOrder.{IsOperatingOrder, operating_order_of}
use Rattle.moves.specs.OpeningRows.{opening_orders, opening_row}
use Rattle.moves.specs.StockRows.{stock_orders, stock_row}
use Rattle.operating.specs.Laws.{CompanyOperates}
use Rattle.order_grammar.specs.Spells.{is_round_of_line}
use Rattle.report.specs.Line.{name_of}
use Rattle.rounds.specs.Play.{Between, Plays, end_of}
use Rattle.rounds.specs.declared.following.Next.{Next}
use Rattle.rounds.specs.declared.following.Next.TheVariants as next
use Rattle.rounds.specs.declared.game.End.TheVariants.{Awaiting, Bank, Bankrupt}
use Rattle.sheets.specs.File.{IsAccepted, players_of}
use Rattle.tables.specs.declared.round.Round.{Round}
use Rattle.tables.specs.declared.round.Round.TheVariants.{Opening, Stock, Operating}
use Rattle.tables.specs.declared.seat.Seat.{Seat}
use Rattle.totals.specs.LookBack.{Game, bankrupt_in}

-- the round that is awaited comes next
pub comes_next : (last : Between) (round : Round) → end_of last.next last.game.events ≡ Awaiting round
    → last.next ≡ next.Round round
comes_next last round =
    elim last.next as (λ (upcoming : Next). end_of upcoming last.game.events ≡ Awaiting round → upcoming ≡ next.Round round) [
      | next.Round its ↦ λ is. cc
      | next.Ended ↦ elim (bankrupt_in last.game.events) as (λ (b : Bool). (if b then Bankrupt else Bank) ≡ Awaiting round
          → next.Ended ≡ next.Round round) [
            | true ↦ λ wrong. absurd (cc)
            | false ↦ λ wrong. absurd (cc)
          ]
    ]

module _ (standing : StandingRowsAreReported) (opening : OpeningRowsAreReported) (stock : StockRowsAreReported) (trains : TrainRowsAreReported)
    (privates : PrivateRowsAreReported) (raising : RaiseRowsAreReported) (operates : CompanyOperates)
    (ordered : (events : List Event) → IsOperatingOrder events (operating_order_of events)) where
  -- the lines of a round of turns are true
  lines_true : (file : List ℕ) (last : Between) (round : Round) (seat : Seat) (text : List ℕ) → IsAccepted file → IsEnded file
      → Plays file last → last.next ≡ next.Round round → HasTurns round → is_round_of_line round ≡ true
      → seat.0 < length (players_of file) → AddsLinesIn None file last.game round seat [] text
      → AreTrueLines file last.game round seat text
  lines_true file last (Opening number) seat text accepted end plays comes turns its own adds =
      record {
        rows = map (opening_row adds.turn.history seat adds.turn.used) (opening_orders adds.turn.history.events);
        are = adds.is;
        reported = opening file last number seat adds.turn accepted end plays comes its own adds.is_turn;
      }
  lines_true file last (Stock set) seat text accepted end plays comes turns its own adds =
      record {
        rows = map (stock_row adds.turn.history seat adds.turn.bought) (stock_orders adds.turn.history.events seat);
        are = adds.is;
        reported = stock file last set seat adds.turn accepted end plays comes its own adds.is_turn;
      }
  lines_true file last (Operating set number) seat text accepted end plays comes turns its own adds = absurd turns

  -- those of an operating round are
  companies_are_true : (file : List ℕ) (last : Between) (round : Round) (seat : Seat) (text : List ℕ) → IsAccepted file
      → IsEnded file → Plays file last → last.next ≡ next.Round round → IsOperating round → is_round_of_line round ≡ true
      → seat.0 < length (players_of file) → AddsLinesIn None file last.game round seat [] text
      → AreTrueCompanies file last.game round seat text
  companies_are_true file last (Opening number) seat text accepted end plays comes is its own adds = absurd is
  companies_are_true file last (Stock set) seat text accepted end plays comes is its own adds = absurd is
  companies_are_true file last (Operating set number) seat text accepted end plays comes is its own adds =
      companies_true trains privates raising operates ordered file last set number accepted end plays comes its seat own text adds

  pub may_lines_reported : MayLinesAreReported
  may_lines_reported file name form text accepted end lines drafted answer =
      let coming = answer.coming in
      let at = answer.is_coming in
      let last : Between = at.there in
      let are : AreLinesOf coming name.now form.drafted text = answer.answers lines in
      let game : coming.history ≡ last.game = at.place.game in
      let plays : Plays file last = at.at in
      let comes : last.next ≡ next.Round are.round =
      comes_next last are.round (sym at.place.end ∙ are.awaited) in
      let adds : AddsLinesIn None file last.game are.round are.seat [] text =
      subst (λ (g : Game). AddsLinesIn None file g are.round are.seat [] text) game
      (subst (λ (f : List ℕ). AddsLinesIn None f coming.history are.round are.seat [] text) at.sheets
      (subst (λ (b : Bool). AddsLinesIn (drafter_for b (Some are.seat)) coming.sheets.now coming.history are.round are.seat [] text)
      drafted are.are))
      in
      record {
        last = last;
        plays = plays;
        round = are.round;
        comes = comes;
        seat = are.seat;
        named = subst (λ (f : List ℕ). str_eq_ignore_ascii_case (name_of f are.seat) name.now ≡ true) at.sheets are.named;
        standing = λ its own.
            standing file last are.round are.seat accepted end plays comes its own;
        lines = λ turns its own. lines_true file last are.round are.seat text accepted end plays comes turns its own adds;
        companies = λ operating its own.
            companies_are_true file last are.round are.seat text accepted end plays comes operating its own adds;
      }
