-- What lays --lines and best write tells the truth.
use Rattle.std.proofs.Common.{◌≡◌, ℕ, ◌<◌, Bool, true, List, [], ◌∷◌, length, None, sym, subst, ◌∙◌}
use Rattle.desk_base.specs.declared.positions.Position.{Position}
use Rattle.desk_moves.specs.Answers.{AreBestOf, AreLaysOf, drafter_for}
use Rattle.desk_moves.specs.BestRuns.{AreMeant}
use Rattle.desk_moves.specs.Coming.{AreOrdersIn}
use Rattle.desk_promise.proofs.LinesTold.{comes_next}
use Rattle.desk_promise.proofs.OrdersReached.{is_head, starts}
use Rattle.desk_promise.specs.CompanyLines.{IsHeadAwaited, IsReportedSo, LaysAreReported, TokensAreReported, obeyed}
use Rattle.desk_promise.specs.CompanyRows.{BestIsReported}
use Rattle.desk_promise.specs.LaysTold.{AreTrueLays, BestTextIsReported, LaysLinesAreReported}
use Rattle.desk_promise.specs.LineFile.{IsEnded}
use Rattle.desk_promise.specs.LinesTold.{IsOperating}
use Rattle.desk_moves.specs.Lines.{AreLaysIn, AreLines, AreTokensIn}
use Rattle.events.specs.declared.event.Event.TheVariants as event
use Rattle.foresight.specs.Ahead.{OrdersState, opened_state}
use Rattle.foresight.specs.Orders.{IsAhead}
use Rattle.foresight.specs.declared.round_ahead.Ahead.TheVariants.{AtOrders}
use Rattle.legal_runs.specs.Set.{IsGreatest}
use Rattle.moves.specs.TurnLaws.{AreLaysAtStart, AreTokensAtStart}
use Rattle.operating.specs.MapState.{position_now}
use Rattle.operating.specs.RunBest.{trains_now}
use Rattle.operating.specs.TurnState.{TurnState}
use Rattle.order_grammar.specs.Spells.{is_round_of_line}
use Rattle.order_grammar.specs.declared.play.PlayOrder.TheVariants.{RunBest}
use Rattle.purchases.specs.Train.{has_trains}
use Rattle.rounds.specs.Play.{Between, Plays}
use Rattle.rounds.specs.declared.following.Next.TheVariants as next
use Rattle.sheets.specs.File.{IsAccepted, players_of}
use Rattle.tables.specs.declared.rolling_stock.Kind.{Kind}
use Rattle.tables.specs.declared.roster.Company.{Company}
use Rattle.tables.specs.declared.round.Round.{Round}
use Rattle.tables.specs.declared.round.Round.TheVariants.{Opening, Stock, Operating}
use Rattle.totals.specs.LookBack.{Game}
use Rattle.totals.specs.Shares.{president_of}

module _ (lays : LaysAreReported) (tokens : TokensAreReported) where
  -- the lines of an operating round are true
  lays_true : (file : List ℕ) (last : Between) (round : Round) (company : Company) (orders : OrdersState) (text : List ℕ)
      → IsAccepted file → IsEnded file → Plays file last → last.next ≡ next.Round round → IsOperating round
      → is_round_of_line round ≡ true → orders.by.president.0 < length (players_of file)
      → IsAhead company (opened_state file None round last.game) (AtOrders orders)
      → AreLines orders.turn orders.by.company text → AreTrueLays file last.game round orders text
  lays_true file last (Opening number) company orders text accepted end plays comes is its own ahead are = absurd is
  lays_true file last (Stock set) company orders text accepted end plays comes is its own ahead are = absurd is
  lays_true file last (Operating set number) company orders text accepted end plays comes is its own ahead are =
      let round : Round = Operating set number in
      let awaited : IsHeadAwaited file last round company orders = record {
        accepted = accepted;
        ended = end;
        plays = plays;
        comes = comes;
        of_line = its;
        ahead = ahead;
        at_table = own;
      } in
      let head = is_head file round company orders last.game ahead in
      let start = starts orders company ahead.mid.game head in
      let some_lays : AreLaysAtStart orders.turn.game company are.lays =
      subst (λ (c : Company). AreLaysAtStart orders.turn.game c are.lays) head.own
      (subst (λ (turn : TurnState). AreLaysIn turn orders.by.company are.lays) start are.are_lays) in
      let some_tokens : AreTokensAtStart orders.turn.game company are.tokens =
      subst (λ (c : Company). AreTokensAtStart orders.turn.game c are.tokens) head.own
      (subst (λ (turn : TurnState). AreTokensIn turn orders.by.company are.tokens) start are.are_tokens) in
      record {
        lays = are.lays;
        tokens = are.tokens;
        is = are.is;
        lays_true = lays file last set number company orders awaited are.lays some_lays;
        tokens_true = tokens file last set number company orders awaited are.tokens some_tokens;
      }

  pub lays_lines_reported : LaysLinesAreReported
  lays_lines_reported file company form text accepted end lines drafted answer =
      let coming : Position = answer.coming in
      let at = answer.is_coming in
      let last : Between = at.there in
      let are : AreLaysOf coming company form.drafted text = answer.answers lines in
      let found : AreOrdersIn coming company None are.orders =
      subst (λ (b : Bool). AreOrdersIn coming company
      (drafter_for b (president_of coming.history.events company)) are.orders) drafted are.are_orders in
      let ahead : IsAhead company (opened_state file None found.round last.game) (AtOrders are.orders) =
      subst (λ (game : Game). IsAhead company (opened_state file None found.round game) (AtOrders are.orders)) at.place.game
      (subst (λ (f : List ℕ). IsAhead company (opened_state f None found.round coming.history) (AtOrders are.orders)) at.sheets
      found.ahead) in
      let comes : last.next ≡ next.Round found.round = comes_next last found.round (sym at.place.end ∙ found.awaited) in
      record {
        last = last;
        plays = at.at;
        round = found.round;
        comes = comes;
        orders = are.orders;
        ahead = ahead;
        lines = λ operating its own.
            lays_true file last found.round company are.orders text accepted end at.at comes operating its own ahead
            are.are_lines;
      }

-- the trains that are meant are the company's own, if none is named
own_meant : (game : Game) (company : Company) (named meant : List Kind) → named ≡ [] → AreMeant game company named meant
    → meant ≡ trains_now game.events company
own_meant game company [] meant none are = are
own_meant game company (kind ∷ kinds) meant none are = absurd (cc)

module _ (best : BestIsReported) where
  -- the best of an operating round is credited
  credited_so : (file : List ℕ) (last : Between) (round : Round) (company : Company) (orders : OrdersState) (revenue : ℕ)
      → IsAccepted file → IsEnded file → Plays file last → last.next ≡ next.Round round
      → IsAhead company (opened_state file None round last.game) (AtOrders orders)
      → IsGreatest (position_now orders.turn.game.events) company (trains_now orders.turn.game.events company) revenue
      → IsOperating round → is_round_of_line round ≡ true → orders.by.president.0 < length (players_of file)
      → has_trains orders.turn.game.events orders.by.company ≡ true
      → IsReportedSo file last.game round orders.by RunBest orders.turn.game
      (obeyed orders.by RunBest ∷ event.Runs orders.by.company revenue ∷ [])
  credited_so file last (Opening number) company orders revenue accepted end plays comes ahead greatest is its own has =
      absurd is
  credited_so file last (Stock set) company orders revenue accepted end plays comes ahead greatest is its own has =
      absurd is
  credited_so file last (Operating set number) company orders revenue accepted end plays comes ahead greatest is its own has =
      let round : Round = Operating set number in
      let awaited : IsHeadAwaited file last round company orders = record {
        accepted = accepted;
        ended = end;
        plays = plays;
        comes = comes;
        of_line = its;
        ahead = ahead;
        at_table = own;
      } in
      (best file last set number company orders awaited).credited has revenue
      (subst (λ (c : Company). IsGreatest (position_now orders.turn.game.events) c
      (trains_now orders.turn.game.events c) revenue)
      (sym (is_head file round company orders last.game ahead).own) greatest)

  pub best_text_reported : BestTextIsReported
  best_text_reported file company trains text accepted end own answer =
      let coming : Position = answer.coming in
      let at = answer.is_coming in
      let last : Between = at.there in
      let are : AreBestOf coming company trains.now text = answer.answers in
      let found : AreOrdersIn coming company None are.orders = are.are_orders in
      let ahead : IsAhead company (opened_state file None found.round last.game) (AtOrders are.orders) =
      subst (λ (game : Game). IsAhead company (opened_state file None found.round game) (AtOrders are.orders)) at.place.game
      (subst (λ (f : List ℕ). IsAhead company (opened_state f None found.round coming.history) (AtOrders are.orders)) at.sheets
      found.ahead) in
      let comes : last.next ≡ next.Round found.round = comes_next last found.round (sym at.place.end ∙ found.awaited) in
      let runs = are.are in
      let meant = own_meant are.orders.turn.game company trains.now runs.trains own runs.are_meant in
      let greatest : IsGreatest (position_now are.orders.turn.game.events) company
      (trains_now are.orders.turn.game.events company) runs.are.claim.revenue =
      subst (λ (kinds : List Kind). IsGreatest (position_now are.orders.turn.game.events) company kinds
      runs.are.claim.revenue) meant runs.are.greatest in
      record {
        last = last;
        plays = at.at;
        round = found.round;
        comes = comes;
        orders = are.orders;
        ahead = ahead;
        revenue = runs.are.claim.revenue;
        runs = runs.are.lines;
        is = runs.are.is;
        credited = λ operating its at_table has.
            credited_so file last found.round company are.orders runs.are.claim.revenue accepted end at.at comes ahead
            greatest operating its at_table has;
      }
