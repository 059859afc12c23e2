-- What an order of a company moves right after its line, as its row tells.
use Rattle.std.proofs.Common.{◌≡◌, ℕ, Bool, true, false, List, [], ◌∷◌, ◌++◌, Option, Some, None, ℤ, pos}
use Rattle.std.proofs.Common.{append_assoc, refl, sym, ap, subst, ◌∙◌, true≢false}
use Rattle.desk_promise.proofs.Longer.{GoesOn, stays}
use Rattle.desk_promise.proofs.LongerTurns.{by_train_came}
use Rattle.desk_promise.proofs.Moved.{Moved, it_moves, nothing_moves}
use Rattle.desk_promise.specs.CompanyLines.{ruled_second}
use Rattle.desk_promise.specs.CompanyRows.{IsRowInReport}
use Rattle.desk_promise.specs.Moves.{IsPrivateMoved, MovesInOrders, trade_in_of, train_moved}
use Rattle.desk_promise.specs.Reported.{IsReportedNext}
use Rattle.desk_promise.specs.TurnRows.{ruling_told}
use Rattle.events.specs.declared.event.Event.{Event}
use Rattle.events.specs.declared.event.Event.TheVariants as event
use Rattle.events.specs.declared.event.Holder.{Holder}
use Rattle.events.specs.declared.event.Holder.TheVariants as holder
use Rattle.events.specs.declared.ruling.Refusal.{Refusal}
use Rattle.events.specs.declared.ruling.Refusal.TheVariants as refusal
use Rattle.events.specs.declared.ruling.Ruling.TheVariants as ruling
use Rattle.forced_purchase.specs.declared.operator.Operator.{Operator}
use Rattle.moves.specs.CompanyRows.{asked_for_private, asked_for_train, private_answer, private_refusal_by, train_answer}
use Rattle.moves.specs.CompanyRows.{train_cost, train_refusal_by}
use Rattle.moves.specs.RowLaws.{private_told, rule_told, train_told}
use Rattle.moves.specs.Rows.{answer_if_given}
use Rattle.moves.specs.declared.row.Answer.{Answer}
use Rattle.moves.specs.declared.row.Answer.TheVariants.{Obeyed, Refused, WithConsent}
use Rattle.moves.specs.declared.row.Row.{Row}
use Rattle.operating.specs.TurnState.{TurnState, ruled}
use Rattle.order_grammar.specs.declared.order.Offer.{Offer}
use Rattle.order_grammar.specs.declared.order.Order.TheVariants.{Play}
use Rattle.order_grammar.specs.declared.order.TrainSource.{TrainSource}
use Rattle.order_grammar.specs.declared.order.TrainSource.TheVariants as source
use Rattle.order_grammar.specs.declared.play.PlayOrder.{PlayOrder}
use Rattle.order_grammar.specs.declared.play.PlayOrder.TheVariants as play
use Rattle.purchases.proofs.ConsentLemmas.{owners_agree}
use Rattle.purchases.specs.Private.{private_judgement, private_bought, sold_by}
use Rattle.purchases.specs.Train.{after_train, purchase_of, train_purchase_cost, with_trade}
use Rattle.purchases.specs.declared.consents.Consents.TheVariants.{All, OfGame}
use Rattle.purchases.specs.declared.train.TrainPurchase.{TrainPurchase}
use Rattle.sheets.specs.Part.{Numbered}
use Rattle.tables.specs.declared.rolling_stock.Kind.{Kind}
use Rattle.tables.specs.declared.roster.Company.{Company}
use Rattle.tables.specs.declared.roster.Private.{Private}
use Rattle.tables.specs.declared.round.Round.{Round}
use Rattle.tables.specs.declared.seat.Seat.{Seat}
use Rattle.totals.proofs.EventAtEnd.{owner_of_before}
use Rattle.totals.specs.LookBack.{Game, owner_of, with_event}
use Rattle.turns.proofs.Ruled.{none_as_refusal}
use Rattle.turns.specs.Ruling.{judged}

-- a line of a company is ruled as it is told, and then its order is done
abbrev LineMoved : Operator → TurnState → Numbered → PlayOrder → Answer → (TurnState → TurnState) → Type 0
LineMoved by turn line its answer act =
    Moved answer (MovesInOrders turn.game by its)
    (turn.game.events ++ event.Ruled by.president line.number (judged line.condition (Play its) (rule_told answer)) ∷ [])
    (ruled by turn line (Play its) (rule_told answer) act).game.events

by_line : (by : Operator) (turn : TurnState) (line : Numbered) (its : PlayOrder) (answer : Answer)
    (act : TurnState → TurnState)
    → ((price : ℤ) → answer ≡ Obeyed price → LineMoved by turn line its (Obeyed price) act)
    → LineMoved by turn line its answer act
by_line by turn line its (Obeyed price) act obeys = obeys price refl
by_line by turn line its (WithConsent price giver sale) act obeys =
    nothing_moves (WithConsent price giver sale) (MovesInOrders turn.game by its)
    (turn.game.events ++ event.Ruled by.president line.number
    (judged line.condition (Play its) (rule_told (WithConsent price giver sale))) ∷ []) refl
by_line by turn line its (Refused rule) act obeys =
    nothing_moves (Refused rule) (MovesInOrders turn.game by its)
    (turn.game.events ++ event.Ruled by.president line.number (judged line.condition (Play its) (Some rule)) ∷ []) refl

-- the price of an answer that needs no consent
abbrev obeys_in : Answer → Bool
obeys_in (Obeyed price) = true
obeys_in other = false

abbrev price_in : Answer → ℤ
price_in (Obeyed price) = price
price_in other = pos 0

record IsFree (cost price : ℤ) (broken : Option Refusal) : Type 0 where
  none : broken ≡ None
  priced : cost ≡ price

is_free : (cost price : ℤ) (broken given : Option Refusal) (asked : Option (Seat × Offer))
    → answer_if_given cost broken given asked ≡ Obeyed price → IsFree cost price broken
is_free cost price None given asked told = record { none = refl; priced = ap price_in told }
is_free cost price (Some rule) None None told = absurd (true≢false (sym (ap obeys_in told)))
is_free cost price (Some rule) None (Some asked) told = absurd (true≢false (sym (ap obeys_in told)))
is_free cost price (Some rule) (Some other) asked told = absurd (true≢false (sym (ap obeys_in told)))

-- a train that goes to a company, and before it the one that is traded in
train_events : (company : Company) (kind : Kind) (from : TrainSource) (amount : ℕ)
    → trade_in_of company (purchase_of kind from).trade_in
    ++ event.Train company (purchase_of kind from).kind (purchase_of kind from).from amount ∷ []
    ≡ train_moved company kind from amount
train_events company kind source.Bank amount = refl
train_events company kind (source.Trade other) amount = refl
train_events company kind source.BankPool amount = refl
train_events company kind (source.Company seller price) amount = refl

trade_first : (game : Game) (company : Company) (trade_in : Option Kind) (train : Event)
    → (with_event (with_trade game company trade_in) train).events ≡ game.events ++ (trade_in_of company trade_in ++ train ∷ [])
trade_first game company None train = refl
trade_first game company (Some kind) train = append_assoc game.events (event.Traded company kind ∷ []) (train ∷ [])

train_goes_on : (game : Game) (company : Company) (kind : Kind) (from : TrainSource)
    → GoesOn (game.events ++ train_moved company kind from (train_cost kind from))
    (after_train game company (purchase_of kind from)).events
train_goes_on game company kind from =
    let purchase : TrainPurchase = purchase_of kind from in
    let cost : ℕ = train_purchase_cost purchase in
    let new : List Event = (after_train game company purchase).events in
    subst (λ (moved : List Event). GoesOn (game.events ++ moved) new) (train_events company kind from cost)
    (subst (λ (list : List Event). GoesOn list new)
    (trade_first game company purchase.trade_in (event.Train company purchase.kind purchase.from cost))
    (by_train_came game company purchase))

-- the line of a train is ruled as it is told
pub by_train_line : (by : Operator) (turn : TurnState) (line : Numbered) (kind : Kind) (from : TrainSource)
    → Moved (train_answer turn.game by.company kind from) (MovesInOrders turn.game by (play.BuyTrain kind from))
    (turn.game.events ++ event.Ruled by.president line.number (judged line.condition (Play (play.BuyTrain kind from))
    (rule_told (train_answer turn.game by.company kind from))) ∷ [])
    (train_told by turn line kind from (train_answer turn.game by.company kind from)).game.events
by_train_line by turn line kind from =
    let its : PlayOrder = play.BuyTrain kind from in
    let purchase : TrainPurchase = purchase_of kind from in
    let act : TurnState → TurnState =
    λ (after : TurnState). record { game = after_train after.game by.company purchase; progress = after.progress } in
    by_line by turn line its (train_answer turn.game by.company kind from) act
    (λ (price : ℤ) (told : train_answer turn.game by.company kind from ≡ Obeyed price).
    let free = is_free (pos (train_cost kind from)) price (train_refusal_by OfGame turn.game by.company kind from)
    (train_refusal_by All turn.game by.company kind from) (asked_for_train turn.game.events by.company kind from) told in
    let there : Game = with_event turn.game (event.Ruled by.president line.number (ruling.Obeyed line.condition (Play its))) in
    subst (λ (sum : ℤ). LineMoved by turn line its (Obeyed sum) act) free.priced
    (it_moves (MovesInOrders turn.game by its) (train_cost kind from) there.events
    (after_train there by.company purchase).events (train_moved by.company kind from (train_cost kind from)) refl
    (train_goes_on there by.company kind from)))

-- a private that a player sells
private_goes : (head after : Game) (company : Company) (private : Private) (price : ℕ) (owner : Option Holder) (seller : Seat)
    → owner ≡ Some (holder.Seat seller) → owner_of head.events private ≡ Some (holder.Seat seller)
    → (Moves : ℕ → List Event → Type 0)
    → ((said : List Event) → IsPrivateMoved head company private price said → Moves price said)
    → Moved (Obeyed (pos price)) Moves after.events (sold_by after company private price owner).events
private_goes head after company private price owner seller is owns Moves so =
    subst (λ (o : Option Holder). Moved (Obeyed (pos price)) Moves after.events (sold_by after company private price o).events)
    (sym is)
    (it_moves Moves price after.events (sold_by after company private price (Some (holder.Seat seller))).events
    (event.PrivateBought private company seller price ∷ [])
    (so (event.PrivateBought private company seller price ∷ []) (record { seller = seller; owns = owns; is = refl })) stays)

-- the line of a private is ruled as it is told
pub by_private_line : (by : Operator) (turn : TurnState) (line : Numbered) (private : Private) (price : ℕ)
    → Moved (private_answer turn.game by.company private price)
    (MovesInOrders turn.game by (play.BuyOwnedPrivate private price))
    (turn.game.events ++ event.Ruled by.president line.number
    (judged line.condition (Play (play.BuyOwnedPrivate private price))
    (rule_told (private_answer turn.game by.company private price))) ∷ [])
    (private_told by turn line private price (private_answer turn.game by.company private price)).game.events
unfolding private_refusal_by
by_private_line by turn line private price =
    let its : PlayOrder = play.BuyOwnedPrivate private price in
    let act : TurnState → TurnState =
    λ (after : TurnState). record { game = private_bought after.game by.company private price; progress = after.progress } in
    by_line by turn line its (private_answer turn.game by.company private price) act
    (λ (sum : ℤ) (told : private_answer turn.game by.company private price ≡ Obeyed sum).
    let free = is_free (pos price) sum (private_refusal_by OfGame turn.game by.company private price)
    (private_refusal_by All turn.game by.company private price)
    (asked_for_private turn.game.events by.company private price) told in
    let kept : private_judgement turn.game by.company private price ≡ None =
    none_as_refusal refusal.Private (private_judgement turn.game by.company private price) free.none in
    let agreed = owners_agree turn.game by.company private price kept in
    let recorded : Event = event.Ruled by.president line.number (ruling.Obeyed line.condition (Play its)) in
    let there : Game = with_event turn.game recorded in
    subst (λ (paid : ℤ). LineMoved by turn line its (Obeyed paid) act) free.priced
    (private_goes turn.game there by.company private price (owner_of there.events private) agreed.giver
    (owner_of_before turn.game.events recorded private refl ∙ agreed.owns) agreed.owns (MovesInOrders turn.game by its)
    (λ said is. is)))

-- so a row is in the report, whose lines go on after its head
pub row_in_report : (file text : List ℕ) (before : Game) (round : Round) (by : Operator) (head : Game) (row : Row)
    (new : List Event)
    → ((said : List Event) → GoesOn (head.events ++ said) new
    → IsReportedNext file text before round head said)
    → Moved row.answer (MovesInOrders head by row.order) (head.events ++ ruled_second by (ruling_told row) ∷ []) new
    → IsRowInReport file text before round by head row
row_in_report file text before round by head row new reports its =
    record {
      moved = its.moved;
      as_told = its.as_told;
      reported =
          reports (ruled_second by (ruling_told row) ∷ its.moved)
          (subst (λ (list : List Event). GoesOn list new)
          (append_assoc head.events (ruled_second by (ruling_told row) ∷ []) its.moved) its.goes_on);
    }
