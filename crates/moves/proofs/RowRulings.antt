-- What a row tells is what becomes of its line.
use Rattle.std.proofs.Common.{◌≡◌, ℕ, Bool, true, false, not, if◌then◌else◌, List, [], ◌∷◌, ◌++◌, Option, Some, None}
use Rattle.std.proofs.Common.{Result, Ok, Err, ℤ, pos, refl, sym, ap, ◌∙◌, option_map}
use Rattle.std.proofs.lemmas.Option.{none-some}
use Rattle.events.specs.declared.event.Event.{Event}
use Rattle.events.specs.declared.event.Holder.{Holder}
use Rattle.events.specs.declared.event.Holder.TheVariants as holder
use Rattle.events.specs.declared.ruling.PrivateRule.{PrivateRule}
use Rattle.events.specs.declared.ruling.PrivateRule.TheVariants as private_rule
use Rattle.events.specs.declared.ruling.Refusal.{Refusal}
use Rattle.events.specs.declared.ruling.Refusal.TheVariants as refusal
use Rattle.events.specs.declared.ruling.TrainRule.{TrainRule}
use Rattle.events.specs.declared.ruling.TrainRule.TheVariants as train_rule
use Rattle.moves.specs.CompanyRows.{asked_for_private, asked_for_train, asked_of_owner, private_answer}
use Rattle.moves.specs.CompanyRows.{private_refusal_by, train_answer, train_cost, train_refusal_by}
use Rattle.moves.specs.OpeningRows.{opening_cost}
use Rattle.moves.specs.RowLaws.{OpeningRowsAreRuled, Orders, PrivateRowsAreRuled, RowsBeforeAreRuled}
use Rattle.moves.specs.RowLaws.{StandingRowsAreRuled, StockRowsAreRuled, TrainRowsAreRuled, consent_rule}
use Rattle.moves.specs.RowLaws.{rule_told}
use Rattle.moves.specs.Rows.{answer_if_given, answer_of}
use Rattle.moves.specs.StandingRows.{before_cost}
use Rattle.moves.specs.StockRows.{stock_cost}
use Rattle.operating.specs.Pay.{withheld_if_unpaid}
use Rattle.operating.specs.Progress.{at_start}
use Rattle.operating.specs.TurnState.{TurnState, ruled, turn_state}
use Rattle.order_grammar.specs.declared.fault.Fault.{Fault}
use Rattle.order_grammar.specs.declared.fault.Fault.TheVariants.{OutOfPlace}
use Rattle.order_grammar.specs.declared.order.Offer.{Offer}
use Rattle.order_grammar.specs.declared.order.Offer.TheVariants as offer
use Rattle.order_grammar.specs.declared.order.Order.{Order}
use Rattle.order_grammar.specs.declared.order.Order.TheVariants.{Play}
use Rattle.order_grammar.specs.declared.order.TrainSource.{TrainSource}
use Rattle.order_grammar.specs.declared.order.TrainSource.TheVariants as source
use Rattle.order_grammar.specs.declared.play.PlayOrder.TheVariants.{BuyOwnedPrivate, BuyTrain}
use Rattle.privates.specs.Standing.{has_place_before_turns, opening_standing_refusal}
use Rattle.privates.specs.Turn.{opening_refusal}
use Rattle.purchases.specs.Private.{is_given_by, is_too_early, is_wrong_price, private_bought, private_costs_too_much}
use Rattle.purchases.specs.Private.{private_judgement_by}
use Rattle.purchases.specs.Standing.{has_place_before_companies, operating_standing_judgement}
use Rattle.purchases.specs.Train.{after_train, is_at_train_limit, is_no_trade_in, is_not_sellers, is_on_sale}
use Rattle.purchases.specs.Train.{lacks_consent_by, purchase_of, train_costs_too_much, train_judgement_by}
use Rattle.purchases.specs.declared.consents.Consents.TheVariants.{All, OfGame}
use Rattle.purchases.specs.declared.train.TrainPurchase.{TrainPurchase}
use Rattle.sheets.specs.Part.{Numbered}
use Rattle.stock_round.specs.Orders.{stock_refusal}
use Rattle.tables.specs.Roster.{same_private}
use Rattle.tables.specs.Rules.{Rule, first_broken}
use Rattle.tables.specs.declared.rolling_stock.Kind.{Kind}
use Rattle.tables.specs.declared.roster.Company.{Company}
use Rattle.tables.specs.declared.roster.Private.{Private}
use Rattle.tables.specs.declared.roster.Private.TheVariants.{BaltimoreOhio}
use Rattle.tables.specs.declared.seat.Seat.{Seat}
use Rattle.totals.specs.LookBack.{Game, owner_of}
use Rattle.totals.specs.Shares.{president_of}
use Rattle.turns.specs.Ruling.{has_place_in_turn, judged, line_ruling, placed_ruling, refusal_under, ruling_of}

-- a line that orders this where it has a place is ruled by the rules alone
ruled_by_rules : (has_place : Order → Bool) (judgement : Order → Option Refusal) (events : List Event)
    (line : Numbered) (order : Order) → has_place order ≡ true → Orders events line order
    → line_ruling has_place judgement events line ≡ judged line.condition order (judgement order)
ruled_by_rules has_place judgement events line order has its =
    let good : Result Order Fault = Ok order in
    ap (λ (reading : Result Order Fault). ruling_of has_place (refusal_under events line.condition judgement) line.condition reading)
    its.read
    ∙ ap (λ (b : Bool). placed_ruling (refusal_under events line.condition judgement) line.condition
    (if b then good else Err OutOfPlace)) has
    ∙ ap (λ (b : Bool). judged line.condition order (if b then judgement order else Some refusal.Condition)) its.met

-- what is told of an order is the rule that it breaks
told_of : (price : ℤ) (broken : Option Refusal) → rule_told (answer_of price broken) ≡ broken
told_of price None = refl
told_of price (Some rule) = refl

-- so the line is ruled as it is told
ruled_as_told : (has_place : Order → Bool) (judgement : Order → Option Refusal) (events : List Event)
    (line : Numbered) (order : Order) (price : ℤ) → has_place order ≡ true → Orders events line order
    → line_ruling has_place judgement events line
    ≡ judged line.condition order (rule_told (answer_of price (judgement order)))
ruled_as_told has_place judgement events line order price has its =
    ruled_by_rules has_place judgement events line order has its
    ∙ ap (judged line.condition order) (sym (told_of price (judgement order)))

pub opening_ruled : OpeningRowsAreRuled
opening_ruled game seat used line order has its =
    ruled_as_told has_place_in_turn (opening_refusal game.seats game.events seat used) game.events line order
    (pos (opening_cost game.events order)) has its

pub stock_ruled : StockRowsAreRuled
stock_ruled game seat deals line order has its =
    ruled_as_told has_place_in_turn (stock_refusal game seat deals.bought) game.events line order
    (pos (stock_cost game.events order)) has its

pub before_ruled : RowsBeforeAreRuled
before_ruled events line order has its =
    ruled_as_told has_place_before_turns (opening_standing_refusal events) events line order (pos (before_cost order)) has its

pub standing_ruled : StandingRowsAreRuled
standing_ruled events seat line order has its =
    ruled_as_told has_place_before_companies (operating_standing_judgement events seat) events line order (pos 0) has its

some_is_not : {A : Type 0} (x : A) → Some x ≡ None → ⊥
some_is_not x wrong = cc

-- two tables that differ in one test: if the first breaks no rule, the second breaks that rule or
-- none
only_row : {Code : Type 0} (before after : List (Rule Code)) (code : Code) (a b : Bool) (rule : Code) →
    first_broken (before ++ record { code = code; broken = a } ∷ after) ≡ None →
    first_broken (before ++ record { code = code; broken = b } ∷ after) ≡ Some rule → rule ≡ code
only_row [] after code true b rule none broken = absurd (some_is_not code none)
only_row [] after code false true rule none broken = cc
only_row [] after code false false rule none broken = absurd (none-some rule (sym none ∙ broken))
only_row {Code} (row ∷ rows) after code a b rule none broken =
    elim row.broken as (λ (test : Bool).
    (if test then Some row.code else first_broken (rows ++ record { code = code; broken = a } ∷ after)) ≡ None →
    (if test then Some row.code else first_broken (rows ++ record { code = code; broken = b } ∷ after)) ≡ Some rule
    → rule ≡ code) [
      | true ↦ λ none broken. absurd (some_is_not row.code none)
      | false ↦ λ none broken. only_row rows after code a b rule none broken
    ]
    none broken

-- what is told is the rule that is broken, where that can only be this rule if everybody's consent
-- leaves none, and the one who is asked is asked for a sale of this rule
told_by : {Code : Type 0} (wrap : Code → Refusal) (code : Code) (price : ℤ) (broken given : Option Code)
    (asked : Option (Seat × Offer)) → ((rule : Code) → given ≡ None → broken ≡ Some rule → rule ≡ code)
    → ((giver : Seat) (sale : Offer) → asked ≡ Some (giver, sale) → consent_rule sale ≡ wrap code)
    → rule_told (answer_if_given price (option_map wrap broken) (option_map wrap given) asked) ≡ option_map wrap broken
told_by wrap code price None given asked only its = refl
told_by wrap code price (Some rule) None (Some (giver, sale)) only its =
    ap (λ (r : Refusal). Some r) (its giver sale refl ∙ ap wrap (sym (only rule refl refl)))
told_by wrap code price (Some rule) None None only its = refl
told_by wrap code price (Some rule) (Some other) asked only its = refl

-- the rule of the sale that somebody is asked for
abbrev rule_asked : Refusal → Option (Seat × Offer) → Refusal
rule_asked other None = other
rule_asked other (Some (giver, sale)) = consent_rule sale

-- who is asked for the one is asked for the other
same_asked : (p giver : Seat) (first second : Offer)
    → ◌≡◌ {A = Option (Seat × Offer)} (Some (p, first)) (Some (giver, second))
    → consent_rule first ≡ consent_rule second
same_asked p giver first second is = ap (rule_asked (consent_rule first)) is

asked_of_train : (events : List Event) (buyer : Company) (kind : Kind) (from : TrainSource) (giver : Seat)
    (sale : Offer) → asked_for_train events buyer kind from ≡ Some (giver, sale)
    → consent_rule sale ≡ refusal.Train train_rule.NoConsent
asked_of_train events buyer kind source.Bank giver sale is = absurd (none-some (giver, sale) is)
asked_of_train events buyer kind (source.Trade other) giver sale is = absurd (none-some (giver, sale) is)
asked_of_train events buyer kind source.BankPool giver sale is = absurd (none-some (giver, sale) is)
asked_of_train events buyer kind (source.Company seller price) giver sale is =
    (elim (president_of events seller) as (λ (president : Option Seat).
    option_map {U = Seat × Offer} (λ (p : Seat). (p, offer.Train kind seller buyer price)) president ≡ Some (giver, sale)
    → consent_rule sale ≡ refusal.Train train_rule.NoConsent) [
      | None ↦ λ none. absurd (none-some (giver, sale) none)
      | Some p ↦ λ some. sym (same_asked p giver (offer.Train kind seller buyer price) sale some)
    ])
    is

asked_of_private : (owner : Option Holder) (private : Private) (buyer : Company) (price : ℕ) (giver : Seat)
    (sale : Offer) → asked_of_owner owner (offer.Private private buyer price) ≡ Some (giver, sale)
    → consent_rule sale ≡ refusal.Private private_rule.NoConsent
asked_of_private None private buyer price giver sale is = absurd (none-some (giver, sale) is)
asked_of_private (Some (holder.Company owner)) private buyer price giver sale is = absurd (none-some (giver, sale) is)
asked_of_private (Some (holder.Seat owner)) private buyer price giver sale is =
    sym (same_asked owner giver (offer.Private private buyer price) sale is)

-- a train that everybody's consent would leave to the company is refused for its consent, if it is
only_train : (game : Game) (company : Company) (purchase : TrainPurchase) (rule : TrainRule)
    → train_judgement_by All game company purchase ≡ None → train_judgement_by OfGame game company purchase ≡ Some rule
    → rule ≡ train_rule.NoConsent
only_train game company purchase rule none broken =
    only_row
    (record { code = train_rule.NotOnSale; broken = not (is_on_sale game.events purchase.from purchase.kind) }
    ∷ record { code = train_rule.TrainLimit; broken = is_at_train_limit game.events company purchase.trade_in }
    ∷ record { code = train_rule.CashTooSmall; broken = train_costs_too_much game company purchase }
    ∷ [])
    (record {
      code = train_rule.NotSellers;
      broken = is_not_sellers game.events company purchase.kind purchase.from;
    }
    ∷ record {
      code = train_rule.NoTradeIn;
      broken = is_no_trade_in game.events company purchase.kind purchase.trade_in;
    }
    ∷ [])
    train_rule.NoConsent (lacks_consent_by All game.events company purchase)
    (lacks_consent_by OfGame game.events company purchase) rule none broken

-- and so is a private
only_private : (game : Game) (company : Company) (private : Private) (price : ℕ) (rule : PrivateRule)
    → private_judgement_by All game company private price ≡ None
    → private_judgement_by OfGame game company private price ≡ Some rule → rule ≡ private_rule.NoConsent
only_private game company private price rule none broken =
    only_row
    (record { code = private_rule.TooEarly; broken = is_too_early game.events }
    ∷ record { code = private_rule.WrongPrice; broken = is_wrong_price private price }
    ∷ [])
    (record { code = private_rule.NeverSold; broken = same_private private BaltimoreOhio }
    ∷ record { code = private_rule.CashTooSmall; broken = private_costs_too_much game company price }
    ∷ [])
    private_rule.NoConsent (not (is_given_by All game.events company private price))
    (not (is_given_by OfGame game.events company private price)) rule none broken

-- what is told of a train is the rule that it breaks
pub told_train : (game : Game) (company : Company) (kind : Kind) (from : TrainSource)
    → rule_told (train_answer game company kind from)
    ≡ option_map refusal.Train (train_judgement_by OfGame game company (purchase_of kind from))
unfolding train_refusal_by
told_train game company kind from =
    told_by refusal.Train train_rule.NoConsent (pos (train_cost kind from))
    (train_judgement_by OfGame game company (purchase_of kind from))
    (train_judgement_by All game company (purchase_of kind from)) (asked_for_train game.events company kind from)
    (λ rule none broken. only_train game company (purchase_of kind from) rule none broken)
    (asked_of_train game.events company kind from)

pub told_private : (game : Game) (company : Company) (private : Private) (price : ℕ)
    → rule_told (private_answer game company private price)
    ≡ option_map refusal.Private (private_judgement_by OfGame game company private price)
unfolding private_refusal_by
told_private game company private price =
    told_by refusal.Private private_rule.NoConsent (pos price) (private_judgement_by OfGame game company private price)
    (private_judgement_by All game company private price) (asked_for_private game.events company private price)
    (λ rule none broken. only_private game company private price rule none broken)
    (asked_of_private (owner_of game.events private) private company price)

pub private_ruled : PrivateRowsAreRuled
private_ruled by game line private price new leads =
    leads
    ∙ ap (λ (rule : Option Refusal). ruled by (turn_state game at_start) line (Play (BuyOwnedPrivate private price)) rule
    (λ (after : TurnState). turn_state (private_bought after.game by.company private price) after.progress))
    (sym (told_private game by.company private price))

pub train_ruled : TrainRowsAreRuled
train_ruled by game line kind from new leads =
    let paid = withheld_if_unpaid by.company (turn_state game at_start) in
    leads
    ∙ ap (λ (rule : Option Refusal). ruled by paid line (Play (BuyTrain kind from)) rule
    (λ (after : TurnState). turn_state (after_train after.game by.company (purchase_of kind from)) after.progress))
    (sym (told_train paid.game by.company kind from))
