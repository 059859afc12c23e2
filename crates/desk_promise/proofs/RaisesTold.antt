-- The rows of RAISE are as the reports say.
use Rattle.std.proofs.Common.{◌≡◌, ℕ, ◌*◌, true, List, [], ◌∷◌, ◌++◌, Option, Some, None, ℤ, pos, refl, sym, ap, subst, ◌∙◌}
use Rattle.std.proofs.Common.{inl, inr}
use Rattle.certs.specs.Purchase.{price_on}
use Rattle.certs.specs.declared.share_deal.Sale.{Sale}
use Rattle.desk_may.specs.RaiseRows.{raise_row, raises}
use Rattle.desk_promise.proofs.CompanyPromise.{Laws, order_stands}
use Rattle.desk_promise.proofs.Longer.{◌⨾◌, by_events, by_sold}
use Rattle.desk_promise.proofs.LongerTurns.{by_conclusion, by_singly}
use Rattle.desk_promise.proofs.Moved.{Moved, it_moves, nothing_moves, then_on}
use Rattle.desk_promise.proofs.OrdersMoved.{row_in_report}
use Rattle.desk_promise.proofs.RaiseAlike.{raise_so}
use Rattle.desk_promise.proofs.RowsTold.{by_withholding}
use Rattle.desk_promise.proofs.StockPromise.{each_mapped}
use Rattle.desk_promise.proofs.TurnSheets.{line_at}
use Rattle.desk_promise.specs.CompanyLines.{IsHeadAwaited, order_file, ruled_second}
use Rattle.desk_promise.specs.CompanyRows.{IsRowReported, RaiseRowsAreReported, once_forced}
use Rattle.desk_promise.specs.Moves.{MovesInOrders}
use Rattle.events.specs.declared.event.Event.TheVariants as event
use Rattle.events.specs.declared.ruling.Refusal.{Refusal}
use Rattle.events.specs.declared.ruling.Ruling.{Ruling}
use Rattle.events.specs.declared.ruling.Ruling.TheVariants as ruling
use Rattle.forced_purchase.specs.Forced.{after_forced, sold_singly}
use Rattle.forced_purchase.specs.Raise.{after_presidents_sale, raise_judgement, raise_ruled}
use Rattle.forced_purchase.specs.declared.operator.Operator.{Operator}
use Rattle.foresight.specs.Ahead.{OrdersState, withheld_in}
use Rattle.moves.specs.Deals.{brought_by}
use Rattle.moves.specs.RowLaws.{rule_told}
use Rattle.moves.specs.Rows.{answer_of}
use Rattle.moves.specs.declared.row.Answer.TheVariants.{Obeyed, Refused}
use Rattle.operating.specs.Pay.{withheld_if_unpaid}
use Rattle.operating.specs.TurnEnd.{EndLeads, IsDue}
use Rattle.operating.specs.TurnState.{TurnState}
use Rattle.order_grammar.specs.declared.order.Order.TheVariants.{Play}
use Rattle.order_grammar.specs.declared.play.PlayOrder.{PlayOrder}
use Rattle.order_grammar.specs.declared.play.PlayOrder.TheVariants as play
use Rattle.rounds.specs.Play.{Between}
use Rattle.tables.specs.declared.roster.Company.{Company}
use Rattle.tables.specs.declared.round.Round.TheVariants.{Operating}
use Rattle.tables.specs.declared.squares.Square.{Square}
use Rattle.totals.proofs.EventAtEnd.{square_of_before}
use Rattle.totals.specs.LookBack.{Game, with_event}
use Rattle.turns.specs.Ruling.{judged}

-- the order of a sale
abbrev raise_of : Sale → PlayOrder
raise_of sale = play.Raise sale.company sale.shares

-- an answer tells the rule that it was made of
pub told_rule : (price : ℤ) (broken : Option Refusal) → broken ≡ rule_told (answer_of price broken)
told_rule price None = refl
told_rule price (Some rule) = refl

-- what a RAISE brings is what a sale brings before FORCED and its ruling
same_price : (game : Game) (by : Operator) (sale : Sale) (done : Ruling)
    → brought_by (with_event (with_event game (event.Forced by.company)) (ruled_second by done)).events sale
    ≡ brought_by game.events sale
same_price game by sale done =
    ap (λ (square : Option Square). sale.shares * price_on square)
    (square_of_before (with_event game (event.Forced by.company)).events (ruled_second by done) sale.company refl
    ∙ square_of_before game.events (event.Forced by.company) sale.company refl)

-- a RAISE is ruled as it is told, and what it brings comes right after that
abbrev RaiseMoved : Operator → Game → Sale → Option Refusal → Game → Type 0
RaiseMoved by game sale broken new =
    Moved (answer_of (pos (brought_by game.events sale)) broken) (MovesInOrders (with_event game (event.Forced by.company)) by (raise_of sale))
    ((with_event game (event.Forced by.company)).events
    ++ ruled_second by (judged None (Play (raise_of sale)) (rule_told (answer_of (pos (brought_by game.events sale)) broken))) ∷ [])
    new.events

by_raise : (by : Operator) (game : Game) (sale : Sale) (broken : Option Refusal)
    → RaiseMoved by game sale broken
    (raise_ruled by (with_event game (event.Forced by.company)) (line_at 2 (Play (raise_of sale))) sale broken)
by_raise by game sale None =
    let once : Game = with_event game (event.Forced by.company) in
    let done : Ruling = ruling.Obeyed None (Play (raise_of sale)) in
    let there : Game = with_event once (ruled_second by done) in
    let price : ℕ = brought_by there.events sale in
    subst (λ (sum : ℕ). Moved (Obeyed (pos sum)) (MovesInOrders once by (raise_of sale)) there.events
    (after_presidents_sale by there sale).events) (same_price game by sale done)
    (it_moves (MovesInOrders once by (raise_of sale)) price there.events (after_presidents_sale by there sale).events
    (event.Sells sale.company by.president sale.shares price ∷ []) refl
    (by_sold there by.president sale.company sale.shares))
by_raise by game sale (Some rule) =
    let once : Game = with_event game (event.Forced by.company) in
    nothing_moves (Refused rule) (MovesInOrders once by (raise_of sale))
    (once.events ++ ruled_second by (ruling.Refused rule None (Play (raise_of sale))) ∷ []) refl

-- a purchase that is due begins with FORCED and the RAISE line
by_forced : (by : Operator) (game : Game) (sale : Sale)
    → RaiseMoved by game sale (raise_judgement true by game None sale)
    (after_forced by (line_at 2 (Play (raise_of sale)) ∷ []) game)
unfolding after_forced
by_forced by game sale =
    let once : Game = with_event game (event.Forced by.company) in
    let its : Option Refusal → Game =
    λ (broken : Option Refusal). raise_ruled by once (line_at 2 (Play (raise_of sale))) sale broken in
    let broken : Option Refusal = raise_judgement true by once None sale in
    subst (λ (rule : Option Refusal). RaiseMoved by game sale rule
    (after_forced by (line_at 2 (Play (raise_of sale)) ∷ []) game)) (raise_so game by.company by sale)
    (then_on (by_raise by game sale broken)
    (by_singly by (its broken) ⨾ by_conclusion by (sold_singly by (its broken))))

-- so does the end of a turn in which one is due
by_end : (by : Operator) (game new : Game) (sale : Sale) → IsDue game by.company
    → EndLeads by (line_at 2 (Play (raise_of sale)) ∷ []) game new
    → RaiseMoved by game sale (raise_judgement true by game None sale) new
by_end by game new sale due (inl forced) =
    subst (λ (after : Game). RaiseMoved by game sale (raise_judgement true by game None sale) after)
    (sym forced.1) (by_forced by game sale)
by_end by game new sale due (inr none) = absurd (none.0 due)

module _ (laws : Laws) (file : List ℕ) (last : Between) (set number : ℕ) (company : Company) (orders : OrdersState)
    (awaited : IsHeadAwaited file last (Operating set number) company orders)
    (due : IsDue (withheld_in orders).turn.game orders.by.company) where
  raise_row_reported : (sale : Sale)
      → IsRowReported file last.game (Operating set number) orders.by (once_forced orders)
      (raise_row (withheld_in orders).turn.game orders.by sale)
  raise_row_reported sale fit also text report =
      let by : Operator = orders.by in
      let now : Game = (withheld_in orders).turn.game in
      let order : PlayOrder = raise_of sale in
      let stands = order_stands laws file last set number company orders awaited order fit also text report in
      let ends : EndLeads by (line_at 2 (Play order) ∷ []) now stands.ended =
      subst (λ (turn : TurnState). EndLeads by (line_at 2 (Play order) ∷ []) (withheld_if_unpaid by.company turn).game
      stands.ended) stands.leads stands.ends in
      row_in_report (order_file file (Operating set number) by order) text last.game (Operating set number) by
      (once_forced orders) (raise_row now by sale)
      stands.ended.events
      (λ said goes_on. stands.reports_end (once_forced orders) said
      (by_withholding by.company orders.turn ⨾ by_events now.events (event.Forced by.company ∷ [])) goes_on)
      (by_end by now stands.ended sale due ends)

pub raise_rows_reported : Laws → RaiseRowsAreReported
raise_rows_reported laws file last set number company orders awaited due =
    each_mapped (IsRowReported file last.game (Operating set number) orders.by (once_forced orders))
    (raise_row (withheld_in orders).turn.game orders.by)
    (raise_row_reported laws file last set number company orders awaited due)
    (raises (withheld_in orders).turn.game.events orders.by.president)
