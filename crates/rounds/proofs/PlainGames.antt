-- A company's turn adds but plain events, where none of its orders has a condition. So each event in
-- the game of a file of version 1 is plain.
use Rattle.std.proofs.Common.{◌≡◌, ℕ, ◌==◌, ◌&&◌, Bool, true, false, if◌then◌else◌, List, [], ◌∷◌}
use Rattle.std.proofs.Common.{Option, Some, None, ℤ, is_none, option_map, Result, Ok, Err, inl, inr}
use Rattle.std.proofs.Common.{pos, refl, sym, subst, ap, ◌++◌, ◌∙◌}
use Rattle.std.specs.Int.RustNames.{unsigned_abs}
use Rattle.std.specs.Int.Signed.{lt_z}
use Rattle.certs.specs.declared.share_deal.Sale.{Sale}
use Rattle.events.specs.declared.event.Event.{Event}
use Rattle.events.specs.declared.event.Event.TheVariants as event
use Rattle.events.specs.declared.event.Holder.{Holder}
use Rattle.events.specs.declared.event.Holder.TheVariants as holder
use Rattle.events.specs.declared.event.Shareholder.TheVariants as place
use Rattle.events.specs.declared.ruling.Refusal.{Refusal}
use Rattle.events.specs.declared.ruling.Refusal.TheVariants as refusal
use Rattle.events.specs.declared.ruling.Ruling.{Ruling}
use Rattle.events.specs.declared.ruling.StockRule.TheVariants.{NotOfStock}
use Rattle.events.specs.declared.ruling.Ruling.TheVariants.{Obeyed, Refused, Faulty}
use Rattle.totals.specs.LookBack.{Game, owner_of, with_event}
use Rattle.totals.specs.Shares.{president_of, square_of}
use Rattle.history.specs.Record.{broken_recorded}
use Rattle.totals.specs.Trains.{at_least_zero}
use Rattle.map_tables.specs.declared.rules.LayRule.{LayRule}
use Rattle.map_tables.specs.declared.rules.RunRule.{RunRule}
use Rattle.map_tables.specs.declared.rules.TokenRule.{TokenRule}
use Rattle.map_tables.specs.Home.{home_of}
use Rattle.map_tables.specs.Place.{place_of}
use Rattle.map_tables.specs.declared.lay.Lay.{Lay}
use Rattle.map_tables.specs.declared.place.Place.{Place}
use Rattle.market.specs.Moves.{square_left_of, right_of}
use Rattle.market.specs.Token.{with_move}
use Rattle.operating.proofs.ForcedGames.{cheapest_plain, operator}
use Rattle.purchases.proofs.TrainSteps.{IsPassedOn, OfClosings, of_bop, of_choice, of_iterate}
use Rattle.purchases.proofs.TrainSteps.{of_next, of_phase, of_trade, of_train_owner}
use Rattle.operating.specs.HomeToken.{has_home_token, with_home}
use Rattle.operating.specs.Pay.{withheld, pay_judgement, withhold_judgement, withheld_if_unpaid}
use Rattle.operating.specs.RunBest.{BestRuled, best_judgement}
use Rattle.certs.specs.Dividend.{all_paid, dividend_paid_to, paid_for, paid_out, paid_to_seats}
use Rattle.operating.specs.TurnEnd.{EndLeads}
use Rattle.operating.specs.ForcedPurchase.{Operator, after_forced, after_presidents_sale, after_raise_line}
use Rattle.operating.specs.ForcedPurchase.{after_raises, cheapest, concluded, falls_short, lack_of, needed_judgement}
use Rattle.operating.specs.ForcedPurchase.{next_to_sell, one_share, raise_judgement, raise_ruled, raised_sale_judgement}
use Rattle.operating.specs.ForcedPurchase.{sold_further, sold_singly, with_aid, with_one_sold, with_ruling}
use Rattle.operating.specs.Progress.{is_unpaid, pay_done}
use Rattle.operating.specs.TurnState.{TurnState, turn_state, line_recorded, ruled}
use Rattle.purchases.specs.Train.{after_train, begins_phase, train_bought, with_trade, train_purchase_cost}
use Rattle.purchases.specs.Train.{purchase_of, train_judgement}
use Rattle.purchases.specs.Phases.{with_phase}
use Rattle.purchases.specs.Private.{private_bought, private_judgement, sold_by}
use Rattle.operating.specs.Run.{judged_run, run_ruled}
use Rattle.operating.specs.CompanyOrders.{AskedLeads, LinesLead, OrderLeads, ReadingLeads, is_held}
use Rattle.operating.specs.CompanyOrders.{is_ruled_there}
use Rattle.operating.specs.Lay.{lay_answered}
use Rattle.operating.specs.Token.{token_answered}
use Rattle.purchases.specs.declared.train.TrainPurchase.{TrainPurchase}
use Rattle.operating.specs.Turn.{CompanyOrdersEnd, CompanyOrdersLead, IsCompanyTurn, begun}
use Rattle.order_grammar.specs.declared.condition.Condition.{Condition}
use Rattle.order_grammar.specs.declared.fault.Fault.{Fault}
use Rattle.order_grammar.specs.declared.fault.Fault.TheVariants.{OutOfPlace}
use Rattle.order_grammar.specs.declared.order.Order.{Order}
use Rattle.order_grammar.specs.declared.order.Order.TheVariants as order
use Rattle.order_grammar.specs.declared.order.TrainSource.{TrainSource}
use Rattle.order_grammar.specs.declared.order.TrainSource.TheVariants as source
use Rattle.order_grammar.specs.declared.play.PlayOrder.TheVariants as play
use Rattle.rounds.proofs.Growing.{◌⨾◌, broken_grows, by_one_event, is_still, passes_plain, stays}
use Rattle.rounds.proofs.PlainRounds.{ArePlain, GrowsPlain, IsOfFamily, IsPlain, SheetsArePlain}
use Rattle.rounds.proofs.PlainRounds.{company_orders_plain, not_held, of_mapped, refused_plain}
use Rattle.rounds.proofs.PlainRounds.{sheets_plain, by_round}
use Rattle.rounds.proofs.StockGrows.{sale_grows, token_grows, stock_adds}
use Rattle.rounds.specs.PlainLines.{is_plain, is_ruled_plainly, VersionOneIsRuledPlainly}
use Rattle.sheets.specs.CompanyOrders.{company_orders_for}
use Rattle.sheets.specs.Part.{Numbered}
use Rattle.tables.specs.Seat.{all_seats}
use Rattle.tables.specs.declared.rolling_stock.Kind.{Kind}
use Rattle.tables.specs.declared.roster.Company.{Company}
use Rattle.tables.specs.declared.roster.Private.{Private}
use Rattle.tables.specs.declared.round.Round.{Round}
use Rattle.tables.specs.declared.seat.Seat.{Seat}
use Rattle.tables.specs.declared.squares.Square.{Square}
use Rattle.std.proofs.lemmas.List.Folds.{list_all-append}
use Rattle.std.specs.List.{list_all}
use Rattle.privates.specs.Turn.{opening_rules}
use Rattle.rounds.proofs.OpeningGrows.{opening_adds}
use Rattle.rounds.proofs.OperatingGrows.{finished_adds, opened_adds}
use Rattle.rounds.specs.OperatingRound.{IsOperatingRound, TakeTurns, operating_round_opened}
use Rattle.rounds.specs.Play.{IsPlayed, before_play}
use Rattle.sheets.specs.Laws.{VersionOneIsPlain}
use Rattle.stock_round.specs.Turn.{stock_rules}
use Rattle.tables.specs.declared.round.Round.TheVariants.{Opening, Stock, Operating}
use Rattle.rounds.proofs.Coming.{through}

-- the list of a game grows by plain events, and so does that of a turn
abbrev pub AddsPlainly : Game → Game → Type 0
AddsPlainly old new = GrowsPlain old.events new.events

abbrev TurnAdds : TurnState → TurnState → Type 0
TurnAdds old new = AddsPlainly old.game new.game

-- that is passed on
on : IsPassedOn AddsPlainly
on = record { same = λ game. stays; both = λ a b c one two. one ⨾ two }

-- by one event that is plain
by_event : (game : Game) (its : Event) → is_plain its ≡ true → AddsPlainly game (with_event game its)
by_event game its is = by_one_event game.events its is

-- by an event, and by BROKEN, where the bank breaks
by_payment : (game : Game) (its : Event) → is_plain its ≡ true
    → AddsPlainly game (broken_recorded (with_event game its))
by_payment game its is = by_event game its is ⨾ passes_plain is_still (broken_grows game.seats
    (with_event game its).events)

-- by the move of a token on the chart
by_move : (move : Square → Square) (game : Game) (company : Company) →
    AddsPlainly game (record { seats = game.seats; events = with_move move game.events company })
by_move move game company =
    passes_plain is_still (token_grows move game.events company (square_of game.events company))

-- by a sale of shares
by_sale : (by : Operator) (game : Game) (sale : Sale) → AddsPlainly game (after_presidents_sale by game sale)
by_sale by game sale =
    passes_plain is_still (sale_grows game by.president sale.company sale.shares)

module _ (company : Company) where
  -- by what the company withholds
  by_withheld : (game : Game) (amount : ℕ) → AddsPlainly game (withheld game company amount)
  by_withheld game amount =
      let its : Event = event.Withheld company amount in
      by_payment game its refl ⨾ by_move square_left_of (broken_recorded (with_event game its))
      company

  by_withholding : (turn : TurnState) → TurnAdds turn (withheld_if_unpaid company turn)
  by_withholding turn =
      let kept : Game = withheld turn.game company turn.progress.runs.revenue in
      elim (is_unpaid turn.progress) as (λ (b : Bool). TurnAdds turn
      (if b then turn_state kept (pay_done turn.progress) else turn)) [
        | true ↦ by_withheld turn.game turn.progress.runs.revenue
        | false ↦ stays
      ]

  -- by a dividend
  by_dividend : (to : Holder) (amount : ℕ) (game : Game) → AddsPlainly game (dividend_paid_to company to amount game)
  by_dividend to amount game =
      let its : Event = event.Dividend company to amount in
      of_choice AddsPlainly (amount == 0) game game (broken_recorded (with_event game its)) stays
      (by_payment game its refl)

  -- by those of some seats
  by_seats : (revenue : ℕ) (game : Game) (seats : List Seat) →
      AddsPlainly game (paid_to_seats company revenue game seats)
  by_seats revenue game [] = stays
  by_seats revenue game (seat ∷ seats) =
      by_dividend (holder.Seat seat) _ game
      ⨾ by_seats revenue (paid_for company (holder.Seat seat) (place.Seat seat) revenue game) seats

  -- by all that the company pays out
  by_paid_out : (game : Game) (revenue : ℕ) → AddsPlainly game (paid_out game company revenue)
  by_paid_out game revenue =
      by_seats revenue game (all_seats game.seats)
      ⨾ by_dividend (holder.Company company) _ (paid_to_seats company revenue game
      (all_seats game.seats))
      ⨾ by_move right_of (all_paid company revenue game) company

  -- by its home token
  by_home : (game : Game) → AddsPlainly game (with_home game company)
  by_home game =
      let home : Event = event.Home company (place_of (home_of company)) in
      of_choice AddsPlainly (has_home_token game.events company) game game (with_event game home)
      stays
      (by_event game home refl)

  -- by a private that it buys
  by_private : (game : Game) (private : Private) (price : ℕ) (owner : Option Holder) →
      AddsPlainly game (sold_by game company private price owner)
  by_private game private price (Some (holder.Seat seller)) =
      by_event game (event.PrivateBought private company seller price) refl
  by_private game private price (Some (holder.Company owner)) = stays
  by_private game private price None = stays

  -- by a train that it buys, and what follows
  by_train : (game : Game) (kind : Kind) (from : TrainSource) →
      AddsPlainly game (after_train game company (purchase_of kind from))
  by_train game kind from =
      let purchase = purchase_of kind from in
      let closes : OfClosings AddsPlainly = λ now private. by_event now (event.Closed private) refl in
      let traded : Game = with_trade game company purchase.trade_in in
      let train : Event = event.Train company purchase.kind purchase.from (train_purchase_cost purchase) in
      let all : Game = train_bought game company purchase in
      let first : AddsPlainly game all =
      of_trade AddsPlainly on (λ now its kind. by_event now (event.Traded its kind) refl) game
      company purchase.trade_in
      ⨾ by_event traded train refl ⨾ of_bop AddsPlainly on closes (with_event traded train)
      company in
      of_choice AddsPlainly (begins_phase game.events purchase.from purchase.kind) game
      (with_phase all purchase.kind) all
      (first ⨾ by_event all (event.Phase purchase.kind) refl ⨾ of_phase AddsPlainly on closes
      (λ old. of_train_owner AddsPlainly on old (λ now owner. by_event now (event.Rusted owner old) refl))
      (of_next AddsPlainly on (λ now its kind. by_event now (event.Discarded its kind) refl)) all
      purchase.kind) first

module _ (by : Operator) (line : Numbered) (plain : IsPlain line) where
  -- a rule that is not of conditions refuses it plainly, and so it is obeyed
  clear : is_none line.condition && true ≡ true
  clear = ap (λ (condition : Option Condition). is_none condition && true) plain

  -- by a ruling of the line
  by_ruling : (turn : TurnState) (ruling : Ruling) → is_ruled_plainly ruling ≡ true →
      TurnAdds turn (line_recorded by turn line ruling)
  by_ruling turn ruling is = by_event turn.game (event.Ruled by.president line.number ruling) is

  -- by that it is obeyed, and one event more
  by_obeyed : (turn : TurnState) (order : Order) (its : Event) → is_plain its ≡ true →
      AddsPlainly turn.game
      (with_event (line_recorded by turn line (Obeyed line.condition order)).game its)
  by_obeyed turn order its is =
      let ruling : Ruling = Obeyed line.condition order in
      by_ruling turn ruling clear ⨾ by_event (line_recorded by turn line ruling).game its is

  -- by that it breaks this rule first, or none
  by_ruled : (turn : TurnState) (its : Order) (broken : Option Refusal) (act : TurnState → TurnState) →
      IsOfFamily broken → ((after : TurnState) → TurnAdds after (act after)) →
      TurnAdds turn (ruled by turn line its broken act)
  by_ruled turn its (Some rule) act of acts =
      by_ruling turn (Refused rule line.condition its) (refused_plain rule line.condition its plain of)
  by_ruled turn its None act of acts =
      by_ruling turn (Obeyed line.condition its) clear
      ⨾ acts (line_recorded by turn line (Obeyed line.condition its))

  -- LAY, TOKEN and RUN, by the answer
  by_lay : (turn : TurnState) (lay : Lay) (answer : Result ℤ LayRule) →
      TurnAdds turn (lay_answered by turn line lay answer)
  by_lay turn lay (Err rule) = by_ruling turn (Refused (refusal.Lay rule) line.condition
      (order.Play (play.Lay lay))) clear
  by_lay turn lay (Ok cost) = by_obeyed turn (order.Play (play.Lay lay)) (event.Laid by.company lay
      (unsigned_abs cost)) refl

  by_token : (turn : TurnState) (at : Place) (answer : Result ℤ TokenRule) →
      TurnAdds turn (token_answered by turn line at answer)
  by_token turn at (Err rule) = by_ruling turn (Refused (refusal.Token rule) line.condition
      (order.Play (play.Token at))) clear
  by_token turn at (Ok cost) = by_obeyed turn (order.Play (play.Token at)) (event.Token by.company at
      (unsigned_abs cost)) refl

  by_run : (turn : TurnState) (its : Order) (judged : Result _ RunRule) →
      TurnAdds turn (run_ruled by turn line its judged)
  by_run turn its (Err rule) = by_ruling turn (Refused (refusal.Run rule) line.condition its) clear
  by_run turn its (Ok ran) = by_obeyed turn its (event.Runs by.company ran.earned) refl

  -- RUN BEST
  by_best : (turn : TurnState) (rule : Option RunRule) (new : TurnState) →
      BestRuled by turn line rule new → TurnAdds turn new
  by_best turn (Some rule) new leads =
      subst (TurnAdds turn) (sym leads)
      (by_ruling turn (Refused (refusal.Run rule) line.condition (order.Play play.RunBest)) clear)
  by_best turn None new leads =
      subst (TurnAdds turn) (sym leads.2) (by_obeyed turn (order.Play play.RunBest) (event.Runs by.company
      leads.0) refl)

  -- an order in this line
  by_order : (turn : TurnState) (its : Order) (new : TurnState) → OrderLeads by turn line its new →
      TurnAdds turn new
  by_order turn (order.Play (play.Lay lay)) new leads = subst (TurnAdds turn) (sym leads.after) (by_lay turn lay
      leads.answer)
  by_order turn (order.Play (play.Token at)) new leads = subst (TurnAdds turn) (sym leads.after) (by_token turn
      at leads.answer)
  by_order turn (order.Run kind run) new leads =
      subst (TurnAdds turn) (sym leads) (by_run turn (order.Run kind run) (judged_run turn
      by.company kind run))
  by_order turn (order.Play play.RunBest) new leads = by_best turn (best_judgement turn by.company) new leads
  by_order turn (order.Play play.Pay) new leads =
      subst (TurnAdds turn) (sym leads)
      (by_ruled turn (order.Play play.Pay) (option_map refusal.Pay (pay_judgement turn.progress))
      (λ after. turn_state (paid_out after.game by.company turn.progress.runs.revenue)
      (pay_done after.progress))
      (of_mapped refusal.Pay (λ rule. tt) (pay_judgement turn.progress))
      (λ after. by_paid_out by.company after.game turn.progress.runs.revenue))
  by_order turn (order.Play play.Withhold) new leads =
      subst (TurnAdds turn) (sym leads)
      (by_ruled turn (order.Play play.Withhold) (option_map refusal.Pay (withhold_judgement turn.progress))
      (λ after. turn_state (withheld after.game by.company turn.progress.runs.revenue)
      (pay_done after.progress))
      (of_mapped refusal.Pay (λ rule. tt) (withhold_judgement turn.progress))
      (λ after. by_withheld by.company after.game turn.progress.runs.revenue))
  by_order turn (order.Play (play.BuyTrain kind from)) new leads =
      let paid : TurnState = withheld_if_unpaid by.company turn in
      let rule = train_judgement paid.game by.company (purchase_of kind from) in
      subst (TurnAdds turn) (sym leads)
      (by_withholding by.company turn
      ⨾ by_ruled paid (order.Play (play.BuyTrain kind from)) (option_map refusal.Train rule)
      (λ after. turn_state (after_train after.game by.company (purchase_of kind from))
      after.progress)
      (of_mapped refusal.Train (λ rule. tt) rule) (λ after. by_train by.company after.game kind
      from))
  by_order turn (order.Play (play.BuyOwnedPrivate private price)) new leads =
      let rule = private_judgement turn.game by.company private price in
      subst (TurnAdds turn) (sym leads)
      (by_ruled turn (order.Play (play.BuyOwnedPrivate private price)) (option_map refusal.Private rule)
      (λ after. turn_state (private_bought after.game by.company private price) after.progress)
      (of_mapped refusal.Private (λ rule. tt) rule)
      (λ after. by_private by.company after.game private price (owner_of after.game.events
      private)))
  by_order turn (order.Play (play.Raise its shares)) new leads = subst (TurnAdds turn) (sym leads) stays
  by_order turn other new leads = subst (TurnAdds turn) (sym leads) (by_ruling turn (Faulty OutOfPlace) refl)

  -- one whose condition is checked
  by_asked : (turn : TurnState) (its : Order) (held : Bool) (new : TurnState) → held ≡ false →
      AskedLeads by turn line its held new → TurnAdds turn new
  by_asked turn its true new free leads = absurd (let wrong : true ≡ false = free in cc)
  by_asked turn its false new free leads = by_order turn its new leads

  -- the line; its condition does not hold it up
  by_line : (turn : TurnState) (reading : Result Order Fault) (new : TurnState) →
      ReadingLeads by turn line reading new → TurnAdds turn new
  by_line turn (Err fault) new leads = subst (TurnAdds turn) (sym leads) (by_ruling turn (Faulty fault) refl)
  by_line turn (Ok its) new leads =
      by_asked turn its (is_held turn.game.events line.condition its) new
      (subst (λ (condition : Option Condition). is_held turn.game.events condition its ≡ false)
      (sym plain)
      (not_held (is_ruled_there its))) leads

  -- a RAISE is refused by the rules of a sale, or as not needed
  raise_of_family : (due : Bool) (game : Game) (sale : Sale) →
      IsOfFamily (raise_judgement due by game line.condition sale)
  unfolding raise_judgement
  raise_of_family due game sale =
      elim (due && falls_short by game) as (λ (needed : Bool). IsOfFamily (if needed
      then needed_judgement by game line.condition sale else Some (refusal.Stock NotOfStock))) [
        | true ↦
            subst (λ (condition : Option Condition). IsOfFamily (needed_judgement by game condition sale)) (sym plain)
            (of_mapped refusal.Stock (λ rule. tt) (raised_sale_judgement by game sale))
        | false ↦ tt
      ]

  by_raise_ruled : (game : Game) (sale : Sale) (broken : Option Refusal) → IsOfFamily broken →
      AddsPlainly game (raise_ruled by game line sale broken)
  by_raise_ruled game sale (Some rule) of =
      let its : Order = order.Play (play.Raise sale.company sale.shares) in
      by_event game (event.Ruled by.president line.number (Refused rule line.condition its))
      (refused_plain rule line.condition its plain of)
  by_raise_ruled game sale None of =
      let obeyed : Ruling = Obeyed line.condition (order.Play (play.Raise sale.company sale.shares)) in
      by_event game (event.Ruled by.president line.number obeyed) clear
      ⨾ by_sale by (with_ruling by game line obeyed) sale

  by_raise : (due : Bool) (game : Game) (reading : Result Order Fault) →
      AddsPlainly game (after_raise_line due by game line reading)
  by_raise due game (Ok (order.Play (play.Raise its shares))) =
      let sale : Sale = record { company = its; shares = shares } in
      by_raise_ruled game sale _ (raise_of_family due game sale)
  by_raise due game other = stays

module _ (by : Operator) where
  -- a company's orders
  by_lines : (turn : TurnState) (lines : List Numbered) (new : TurnState) → ArePlain lines →
      LinesLead by turn lines new → TurnAdds turn new
  by_lines turn [] new are leads = subst (TurnAdds turn) (sym leads) stays
  by_lines turn (line ∷ lines) new are leads =
      by_line by line are.0 turn line.reading leads.0 leads.1 ⨾ by_lines leads.0 lines new are.1
      leads.2

  -- the RAISE lines of the company's orders
  by_raises : (due : Bool) (lines : List Numbered) (game : Game) → ArePlain lines →
      AddsPlainly game (after_raises due by game lines)
  by_raises due [] game are = stays
  by_raises due (line ∷ lines) game are =
      by_raise by line are.0 due game line.reading
      ⨾ by_raises due lines (after_raise_line due by game line line.reading) are.1

  -- single shares that are sold
  by_one_sold : (game : Game) (found : Option Company) →
      AddsPlainly game (with_one_sold by game found)
  by_one_sold game None = stays
  by_one_sold game (Some its) = by_sale by game (one_share its)

  by_singly : (game : Game) → AddsPlainly game (sold_singly by game)
  unfolding sold_singly sold_further
  by_singly game =
      of_iterate AddsPlainly (sold_further by) on
      (λ now. of_choice AddsPlainly (falls_short by now) now
      (with_one_sold by now (next_to_sell by now)) now
      (by_one_sold now (next_to_sell by now)) stays) 40 game

  -- what the president pays
  by_aid : (game : Game) → AddsPlainly game (with_aid by game)
  unfolding with_aid
  by_aid game =
      let its : Event = event.Aid by.president by.company (at_least_zero (lack_of game
      by.company)) in
      of_choice AddsPlainly (lt_z (pos 0) (lack_of game by.company)) game (with_event game its) game
      (by_event game its refl) stays

  -- the cheapest train by a list
  by_cheapest : (game : Game) (events : List Event) → AddsPlainly game (after_train game by.company
      (cheapest events))
  by_cheapest game events =
      let its = cheapest_plain events in
      let Adds : TrainPurchase → Type 0 = λ purchase. AddsPlainly game (after_train game by.company
      purchase) in
      elim its.1 [
        | inl is ↦ subst Adds (sym is) (by_train by.company game its.0 source.Bank)
        | inr is ↦ subst Adds (sym is) (by_train by.company game its.0 source.BankPool)
      ]

  -- the purchase, or the bankruptcy
  by_concluded : (game : Game) → AddsPlainly game (concluded by game)
  unfolding concluded
  by_concluded game =
      let aided : Game = with_aid by game in
      of_choice AddsPlainly (falls_short by game) game (with_event game (event.Bankrupt
      by.president))
      (after_train aided by.company (cheapest game.events)) (by_event game (event.Bankrupt
      by.president) refl)
      (by_aid game ⨾ by_cheapest aided game.events)

  -- a purchase that is due
  by_forced : (lines : List Numbered) (game : Game) → ArePlain lines →
      AddsPlainly game (after_forced by lines game)
  unfolding after_forced
  by_forced lines game are =
      let due : Game = with_event game (event.Forced by.company) in
      let raised : Game = after_raises true by due lines in
      by_event game (event.Forced by.company) refl ⨾ by_raises true lines due are ⨾ by_singly raised
      ⨾ by_concluded (sold_singly by raised)

  -- the end of the turn
  by_end : (lines : List Numbered) (game new : Game) → ArePlain lines →
      EndLeads by lines game new → AddsPlainly game new
  by_end lines game new are (inl due) = subst (AddsPlainly game) (sym due.1) (by_forced lines game are)
  by_end lines game new are (inr none) = subst (AddsPlainly game) (sym none.1) (by_raises false lines game are)

module _ (file : List ℕ) (round : Round) (sheets : SheetsArePlain file round) (company : Company) where
  -- a company's orders
  by_orders : (turn : TurnState) (president : Option Seat) (new : TurnState) →
      CompanyOrdersLead file round company turn president new → TurnAdds turn new
  by_orders turn None new leads = subst (TurnAdds turn) (sym leads) stays
  by_orders turn (Some seat) new leads =
      by_lines (operator company seat) turn (company_orders_for file round seat.0 company) new
      (company_orders_plain file round sheets seat.0 company) leads

  -- what follows from it at the end of the turn
  by_orders_end : (game : Game) (president : Option Seat) (new : Game) →
      CompanyOrdersEnd file round company game president new → AddsPlainly game new
  by_orders_end game None new ends = subst (AddsPlainly game) (sym ends) stays
  by_orders_end game (Some seat) new ends =
      by_end (operator company seat) (company_orders_for file round seat.0 company) game new
      (company_orders_plain file round sheets seat.0 company) ends

  -- the whole turn
  pub by_company_turn : (old new : Game) → IsCompanyTurn file round company old new → AddsPlainly old new
  by_company_turn old new turn =
      let president : Option Seat = president_of old.events company in
      by_home company old ⨾ by_orders (begun old company) president turn.last turn.orders
      ⨾ by_withholding company turn.last
      ⨾ by_orders_end (withheld_if_unpaid company turn.last).game president new turn.after

module _ (file : List ℕ) (round : Round) (sheets : SheetsArePlain file round) where
  -- turns of companies add but plain events
  turns_add : (companies : List Company) (old new : Game) → TakeTurns file round companies old new →
      GrowsPlain old.events new.events
  turns_add [] old new taken = subst (λ (game : Game). GrowsPlain old.events game.events) taken
      stays
  turns_add (company ∷ others) old new taken =
      by_company_turn file round sheets company old taken.0 taken.1.turn ⨾ turns_add others taken.0
      new taken.2

  -- and so does an operating round
  operating_adds : (old new : Game) → IsOperatingRound file round old new →
      GrowsPlain (old.events ++ event.Round round ∷ []) new.events
  operating_adds old new played =
      subst (λ (game : Game). GrowsPlain (old.events ++ event.Round round ∷ []) game.events)
      (sym played.after)
      (opened_adds file round old sheets
      ⨾ turns_add played.turns.companies (operating_round_opened file round old) played.turned played.turns.turns
      ⨾ finished_adds file round old.seats played.turned.events)

-- and each round
round_adds : (file : List ℕ) (round : Round) (old new : Game) → SheetsArePlain file round →
    IsPlayed file round old new → GrowsPlain (old.events ++ event.Round round ∷ []) new.events
round_adds file (Opening number) old new sheets played =
    by_round opening_rules opening_adds file (Opening number) old new sheets played
round_adds file (Stock set) old new sheets played =
    by_round stock_rules stock_adds file (Stock set) old new sheets played
round_adds file (Operating set number) old new sheets played =
    operating_adds file (Operating set number) sheets old new played

-- a list of plain events that grows by plain events
still_plain : (old new : List Event) → GrowsPlain old new → list_all is_plain old ≡ true → list_all is_plain new ≡ true
still_plain old new grows are =
    subst (λ (events : List Event). list_all is_plain events ≡ true) (sym grows.longer)
    (list_all-append is_plain old grows.more
    ∙ ap (λ (b : Bool). b && list_all is_plain grows.more) are
    ∙ grows.aside)

-- so each event in the game of a file of version 1 is plain
pub ruled_plainly : VersionOneIsPlain → VersionOneIsRuledPlainly
ruled_plainly law file rounds there one played =
    through file (λ at. list_all is_plain at.game.events ≡ true)
    (λ old new are round. still_plain old.game.events new.game.events
    (by_one_event old.game.events (event.Round round.round) refl
    ⨾ round_adds file round.round old.game new.game (sheets_plain law file round.round one)
    round.played) are)
    rounds (before_play file) there played refl
