-- A company's turn, step by step: the one place that goes over what becomes of its lines. What
-- holds of each of its steps, and of one after the other, holds of all of them.
use Rattle.std.proofs.Common.{◌≡◌, ℕ, Bool, true, false, if◌then◌else◌, List, [], ◌∷◌, Option, Some, None, Result, Ok}
use Rattle.std.proofs.Common.{Err, ℤ, refl, sym, subst, ◌∙◌}
use Rattle.std.specs.Int.RustNames.{unsigned_abs}
use Rattle.board_state.specs.MapState.{MapState}
use Rattle.board.specs.LayRules.{IsLayAnswer, map_rules}
use Rattle.board.specs.TokenRules.{IsTokenAnswer, slot_rules}
use Rattle.board.specs.declared.turn.Asker.{Asker}
use Rattle.events.specs.Event.{phase_set, tile_laid, train_moved}
use Rattle.events.specs.declared.event.Event.{Event}
use Rattle.events.specs.declared.event.Event.TheVariants as event
use Rattle.events.specs.declared.event.Holder.{Holder}
use Rattle.events.specs.declared.event.Holder.TheVariants as holder
use Rattle.events.specs.declared.ruling.PayRule.{PayRule}
use Rattle.events.specs.declared.ruling.PrivateRule.{PrivateRule}
use Rattle.events.specs.declared.ruling.Ruling.{Ruling}
use Rattle.events.specs.declared.ruling.Ruling.TheVariants.{Obeyed}
use Rattle.events.specs.declared.ruling.TrainRule.{TrainRule}
use Rattle.totals.specs.LookBack.{Game, owner_of, with_event}
use Rattle.totals.specs.Operating.{lays_of}
use Rattle.totals.specs.Shares.{president_of}
use Rattle.map_tables.specs.declared.rules.LayRule.{LayRule}
use Rattle.map_tables.specs.declared.rules.RunRule.{RunRule}
use Rattle.map_tables.specs.declared.rules.TokenRule.{TokenRule}
use Rattle.map_tables.specs.declared.lay.Lay.{Lay}
use Rattle.map_tables.specs.declared.place.Place.{Place}
use Rattle.operating.proofs.LayLemmas.{lay_allowed}
use Rattle.operating.proofs.TokenLemmas.{token_allowed}
use Rattle.purchases.proofs.AgreedSales.{private_agreed}
use Rattle.operating.proofs.Fitting.{same_after_ruling}
use Rattle.purchases.proofs.PrivateLemmas.{same_after_line}
use Rattle.purchases.proofs.Still.{same_judgement}
use Rattle.operating.proofs.TurnEvents.{IsOfTurn}
use Rattle.operating.specs.Lay.{after_lay}
use Rattle.operating.specs.Pay.{withheld}
use Rattle.operating.specs.Progress.{best_done}
use Rattle.operating.specs.RunBest.{BestRuled, best_earned, best_judgement}
use Rattle.operating.specs.Token.{after_token}
use Rattle.certs.specs.Dividend.{paid_out}
use Rattle.operating.specs.BoardAsker.{asker_of}
use Rattle.operating.specs.MapState.{map_state_now}
use Rattle.operating.specs.Pay.{pay_judgement, pay_ruled, withhold_judgement}
use Rattle.operating.specs.Progress.{is_unpaid, lay_done, pay_done, token_done}
use Rattle.operating.specs.TurnState.{TurnState, turn_state, line_recorded}
use Rattle.purchases.specs.Train.{after_train}
use Rattle.purchases.specs.Private.{private_judgement, sold_by}
use Rattle.operating.specs.CompanyOrders.{AskedLeads, LinesLead, OrderLeads, ReadingLeads, is_held}
use Rattle.operating.specs.Lay.{lay_answered}
use Rattle.operating.specs.Pay.{withheld_if_unpaid}
use Rattle.operating.specs.Private.{private_ruled}
use Rattle.operating.specs.Progress.{run_done}
use Rattle.operating.specs.Run.{judged_run, run_ruled}
use Rattle.operating.specs.Token.{token_answered}
use Rattle.operating.specs.Train.{train_ruled}
use Rattle.operating.specs.Turn.{CompanyOrdersLead, IsCompanyTurn, begun}
use Rattle.purchases.specs.Train.{purchase_of, train_judgement}
use Rattle.forced_purchase.specs.declared.operator.Operator.{Operator}
use Rattle.operating.specs.declared.progress.Progress.{Progress}
use Rattle.operating.specs.declared.completed_runs.CompletedRun.{CompletedRun}
use Rattle.order_grammar.specs.declared.fault.Fault.{Fault}
use Rattle.order_grammar.specs.declared.order.Order.{Order}
use Rattle.order_grammar.specs.declared.order.Order.TheVariants as order
use Rattle.order_grammar.specs.declared.order.TrainSource.{TrainSource}
use Rattle.order_grammar.specs.declared.play.PlayOrder.TheVariants as play
use Rattle.sheets.specs.CompanyOrders.{company_orders_for}
use Rattle.sheets.specs.Part.{Numbered}
use Rattle.tables.specs.Rules.{first_broken}
use Rattle.tables.specs.declared.rolling_stock.Kind.{Kind}
use Rattle.tables.specs.declared.roster.Company.{Company}
use Rattle.tables.specs.declared.roster.Private.{Private}
use Rattle.tables.specs.declared.round.Round.{Round}
use Rattle.tables.specs.declared.seat.Seat.{Seat}

-- What is to be shown of the steps of a company's turn. It holds of none and of one after the
-- other. It holds of an event of the turn that does not change how far the turn has come, as a
-- ruling is. It holds of what follows from an obeyed line after its ruling. That is a lay, a token,
-- a run, what is paid out, what is withheld, or a purchase by the rules.
pub record OfSteps (company : Company) (R : TurnState → TurnState → Type 0) : Type 0 where
  pub same : (turn : TurnState) → R turn turn
  pub both : (a b c : TurnState) → R a b → R b c → R a c
  pub more : (turn : TurnState) (its : Event) → IsOfTurn company turn.game its → tile_laid its ≡ None
      → train_moved its ≡ None → phase_set its ≡ None →
      R turn (turn_state (with_event turn.game its) turn.progress)
  pub laid : (turn : TurnState) (lays : List Lay) (asker : Asker) (lay : Lay) (cost : ℕ) →
      first_broken (map_rules (map_state_now turn.game.events) asker lay) ≡ None →
      R turn (turn_state (after_lay turn.game company lay cost) (lay_done lays asker lay turn.progress))
  pub placed : (turn : TurnState) (asker : Asker) (at : Place) (cost : ℕ) → asker.pointer ≡ turn.progress.pointer →
      first_broken (slot_rules (map_state_now turn.game.events) asker at) ≡ None →
      R turn (turn_state (after_token turn.game company at cost) (token_done turn.progress))
  pub ran : (turn : TurnState) (progress : Progress) (revenue : ℕ)
      → R turn (turn_state (with_event turn.game (event.Runs company revenue)) progress)
  pub paid : (turn : TurnState) → pay_judgement turn.progress ≡ None →
      R turn (turn_state (paid_out turn.game company turn.progress.runs.revenue) (pay_done turn.progress))
  pub kept : (turn : TurnState) → R turn (turn_state (withheld turn.game company turn.progress.runs.revenue)
      (pay_done turn.progress))
  pub bought : (turn : TurnState) (kind : Kind) (from : TrainSource)
      → train_judgement turn.game company (purchase_of kind from) ≡ None →
      R turn (turn_state (after_train turn.game company (purchase_of kind from)) turn.progress)

module _ (company : Company) (R : TurnState → TurnState → Type 0) (steps : OfSteps company R) where
  -- of what the company withholds by itself
  pub of_withheld_if_unpaid : (turn : TurnState) → R turn (withheld_if_unpaid company turn)
  of_withheld_if_unpaid turn =
      elim (is_unpaid turn.progress) as (λ (b : Bool). R turn
      (if b then turn_state (withheld turn.game company turn.progress.runs.revenue)
      (pay_done turn.progress) else turn)) [
        | true ↦ steps.kept turn
        | false ↦ steps.same turn
      ]

module _ (by : Operator) (R : TurnState → TurnState → Type 0) (steps : OfSteps by.company R) where
  -- of a ruling
  of_ruling : (turn : TurnState) (line : Numbered) (ruling : Ruling) → R turn (line_recorded by turn line ruling)
  of_ruling turn line ruling = steps.more turn (event.Ruled by.president line.number ruling) tt refl refl refl

  -- of an obeyed line and what it brings
  after_ruling : (turn : TurnState) (line : Numbered) (its : Order) (new : TurnState)
      → R (line_recorded by turn line (Obeyed line.condition its)) new → R turn new
  after_ruling turn line its new brings =
      steps.both turn (line_recorded by turn line (Obeyed line.condition its)) new
      (of_ruling turn line (Obeyed line.condition its)) brings

  -- of LAY
  of_lay : (turn : TurnState) (line : Numbered) (lay : Lay) (answer : Result ℤ LayRule) →
      IsLayAnswer (map_state_now turn.game.events) (asker_of turn.game by.company turn.progress) lay answer
      → R turn (lay_answered by turn line lay answer)
  of_lay turn line lay (Err rule) answered = of_ruling turn line _
  of_lay turn line lay (Ok cost) answered =
      let asker : Asker = asker_of turn.game by.company turn.progress in
      let ruled = line_recorded by turn line (Obeyed line.condition (order.Play (play.Lay lay))) in
      let same = same_after_ruling turn.game ruled.game by.president line (Obeyed line.condition (order.Play (play.Lay lay)))
      refl in
      after_ruling turn line (order.Play (play.Lay lay)) (lay_answered by turn line lay (Ok cost))
      (steps.laid ruled (lays_of turn.game.events) asker lay (unsigned_abs cost)
      (subst (λ (g : MapState). first_broken (map_rules g asker lay) ≡ None) (sym same)
      (lay_allowed (map_state_now turn.game.events) asker lay cost answered).allowed))

  -- of TOKEN
  of_token : (turn : TurnState) (line : Numbered) (at : Place) (answer : Result ℤ TokenRule) →
      IsTokenAnswer (map_state_now turn.game.events) (asker_of turn.game by.company turn.progress) at answer
      → R turn (token_answered by turn line at answer)
  of_token turn line at (Err rule) answered = of_ruling turn line _
  of_token turn line at (Ok cost) answered =
      let asker : Asker = asker_of turn.game by.company turn.progress in
      let ruled = line_recorded by turn line (Obeyed line.condition (order.Play (play.Token at))) in
      let same = same_after_ruling turn.game ruled.game by.president line (Obeyed line.condition (order.Play (play.Token at)))
      refl in
      after_ruling turn line (order.Play (play.Token at)) (token_answered by turn line at (Ok cost))
      (steps.placed ruled asker at (unsigned_abs cost) refl
      (subst (λ (g : MapState). first_broken (slot_rules g asker at) ≡ None) (sym same)
      (token_allowed (map_state_now turn.game.events) asker at cost answered).allowed))

  -- of RUN
  of_run : (turn : TurnState) (line : Numbered) (its : Order) (judged : Result CompletedRun RunRule)
      → R turn (run_ruled by turn line its judged)
  of_run turn line its (Err rule) = of_ruling turn line _
  of_run turn line its (Ok ran) =
      after_ruling turn line its (run_ruled by turn line its (Ok ran))
      (steps.ran (line_recorded by turn line (Obeyed line.condition its)) (run_done turn.progress ran) ran.earned)

  -- of RUN BEST
  of_best : (turn : TurnState) (line : Numbered) (rule : Option RunRule) (new : TurnState)
      → BestRuled by turn line rule new
      → R turn new
  of_best turn line (Some rule) new leads = subst (R turn) (sym leads) (of_ruling turn line _)
  of_best turn line None new leads =
      subst (R turn) (sym leads.2)
      (after_ruling turn line (order.Play play.RunBest) (best_earned by turn line leads.0)
      (steps.ran (line_recorded by turn line (Obeyed line.condition (order.Play play.RunBest))) (best_done turn.progress leads.0)
      leads.0))

  -- of PAY or WITHHOLD
  of_pay : (turn : TurnState) (line : Numbered) (its : Order) (rule : Option PayRule) (after : Game → Game) →
      (rule ≡ None → R (line_recorded by turn line (Obeyed line.condition its))
      (turn_state (after (line_recorded by turn line (Obeyed line.condition its)).game) (pay_done turn.progress))) →
      R turn (pay_ruled by turn line its rule after)
  of_pay turn line its (Some rule) after brings = of_ruling turn line _
  of_pay turn line its None after brings =
      after_ruling turn line its (pay_ruled by turn line its None after) (brings refl)

  -- of TRAIN
  of_train : (turn : TurnState) (line : Numbered) (kind : Kind) (from : TrainSource) (rule : Option TrainRule) →
      train_judgement turn.game by.company (purchase_of kind from) ≡ rule →
      R turn (train_ruled by turn line (order.Play (play.BuyTrain kind from)) (purchase_of kind from) rule)
  of_train turn line kind from (Some rule) broken = of_ruling turn line _
  of_train turn line kind from None none =
      let its = order.Play (play.BuyTrain kind from) in
      let purchase = purchase_of kind from in
      let ruled = line_recorded by turn line (Obeyed line.condition its) in
      after_ruling turn line its (train_ruled by turn line its purchase None)
      (steps.bought ruled kind from (same_judgement turn.game ruled.game by.president line kind from by.company
      purchase refl ∙ none))

  -- of PRIVATE
  of_sale : (turn : TurnState) (private : Private) (price : ℕ) (owner : Option Holder)
      → owner_of turn.game.events private ≡ owner →
      private_judgement turn.game by.company private price ≡ None
      → R turn (turn_state (sold_by turn.game by.company private price owner) turn.progress)
  of_sale turn private price (Some (holder.Seat seller)) owns none =
      steps.more turn (event.PrivateBought private by.company seller price)
      (private_agreed by.company turn.game private price seller owns none) refl refl refl
  of_sale turn private price (Some (holder.Company owner)) owns none = steps.same turn
  of_sale turn private price None owns none = steps.same turn

  of_private : (turn : TurnState) (line : Numbered) (private : Private) (price : ℕ) (rule : Option PrivateRule) →
      private_judgement turn.game by.company private price ≡ rule
      → R turn (private_ruled by turn line private price rule)
  of_private turn line private price (Some rule) broken = of_ruling turn line _
  of_private turn line private price None none =
      let ruled = line_recorded by turn line (Obeyed line.condition (order.Play (play.BuyOwnedPrivate private price))) in
      after_ruling turn line (order.Play (play.BuyOwnedPrivate private price)) (private_ruled by turn line private price None)
      (of_sale ruled private price (owner_of ruled.game.events private) refl
      (same_after_line turn.game ruled.game by.president line by.company private price refl ∙ none))

  -- of an order
  of_order : (turn : TurnState) (line : Numbered) (its : Order) (new : TurnState) → OrderLeads by turn line its new
      → R turn new
  of_order turn line (order.Play (play.Lay lay)) new leads =
      subst (R turn) (sym leads.after) (of_lay turn line lay leads.answer leads.answered)
  of_order turn line (order.Play (play.Token at)) new leads =
      subst (R turn) (sym leads.after) (of_token turn line at leads.answer leads.answered)
  of_order turn line (order.Run kind run) new leads =
      subst (R turn) (sym leads) (of_run turn line (order.Run kind run) (judged_run turn by.company kind run))
  of_order turn line (order.Play play.RunBest) new leads = of_best turn line (best_judgement turn by.company) new leads
  of_order turn line (order.Play play.Pay) new leads =
      subst (R turn) (sym leads)
      (of_pay turn line (order.Play play.Pay) (pay_judgement turn.progress)
      (λ game. paid_out game by.company turn.progress.runs.revenue)
      (steps.paid (line_recorded by turn line (Obeyed line.condition (order.Play play.Pay)))))
  of_order turn line (order.Play play.Withhold) new leads =
      subst (R turn) (sym leads)
      (of_pay turn line (order.Play play.Withhold) (withhold_judgement turn.progress)
      (λ game. withheld game by.company turn.progress.runs.revenue)
      (λ rules. steps.kept (line_recorded by turn line (Obeyed line.condition (order.Play play.Withhold)))))
  of_order turn line (order.Play (play.BuyTrain kind from)) new leads =
      let paid = withheld_if_unpaid by.company turn in
      let purchase = purchase_of kind from in
      let rule = train_judgement paid.game by.company purchase in
      subst (R turn) (sym leads)
      (steps.both turn paid (train_ruled by paid line (order.Play (play.BuyTrain kind from)) purchase rule)
      (of_withheld_if_unpaid by.company R steps turn)
      (of_train paid line kind from rule refl))
  of_order turn line (order.Play (play.BuyOwnedPrivate private price)) new leads =
      subst (R turn) (sym leads) (of_private turn line private price
      (private_judgement turn.game by.company private price) refl)
  of_order turn line (order.Play (play.Raise company shares)) new leads = subst (R turn) (sym leads) (steps.same turn)
  of_order turn line other new leads = subst (R turn) (sym leads) (of_ruling turn line _)

  -- of an order whose condition is checked
  of_asked : (turn : TurnState) (line : Numbered) (its : Order) (held : Bool) (new : TurnState)
      → AskedLeads by turn line its held new → R turn new
  of_asked turn line its true new leads = subst (R turn) (sym leads) (of_ruling turn line _)
  of_asked turn line its false new leads = of_order turn line its new leads

  -- of a line
  pub of_line : (turn : TurnState) (line : Numbered) (reading : Result Order Fault) (new : TurnState)
      → ReadingLeads by turn line reading new → R turn new
  of_line turn line (Err fault) new leads = subst (R turn) (sym leads) (of_ruling turn line _)
  of_line turn line (Ok its) new leads = of_asked turn line its (is_held turn.game.events line.condition its) new leads

  -- of lines
  of_lines : (turn : TurnState) (lines : List Numbered) (new : TurnState) → LinesLead by turn lines new → R turn new
  of_lines turn [] new leads = subst (R turn) (sym leads) (steps.same turn)
  of_lines turn (line ∷ lines) new leads =
      steps.both turn leads.0 new (of_line turn line line.reading leads.0 leads.1) (of_lines leads.0 lines new leads.2)

module _ (company : Company) (R : TurnState → TurnState → Type 0) (steps : OfSteps company R) where
  -- of a company's orders
  pub of_orders : (file : List ℕ) (round : Round) (turn : TurnState) (president : Option Seat) (new : TurnState) →
      CompanyOrdersLead file round company turn president new → R turn new
  of_orders file round turn None new leads = subst (R turn) (sym leads) (steps.same turn)
  of_orders file round turn (Some seat) new leads =
      of_lines (record { company = company; president = seat }) R steps turn
      (company_orders_for file round seat.0 company) new leads

  -- of a whole turn, from its home token on
  pub of_turn : (file : List ℕ) (round : Round) (old new : Game) (turn : IsCompanyTurn file round company old new) →
      R (begun old company) (withheld_if_unpaid company turn.last)
  of_turn file round old new turn =
      steps.both (begun old company) turn.last (withheld_if_unpaid company turn.last)
      (of_orders file round (begun old company) (president_of old.events company) turn.last turn.orders)
      (of_withheld_if_unpaid company R steps turn.last)
