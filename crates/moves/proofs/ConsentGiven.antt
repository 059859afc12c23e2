-- What lacks a consent alone is obeyed once that is given.
use Rattle.std.proofs.Common.{◌≡◌, ℕ, ◌==◌, Bool, true, false, not, ◌||◌, if◌then◌else◌, List, [], ◌∷◌, ◌++◌}
use Rattle.std.proofs.Common.{nat_lt, Option, Some, None, ℤ, pos, is_some, unwrap_or, refl, sym, ap, subst, ◌∙◌, option_map, arith}
use Rattle.std.proofs.lemmas.Bool.Decides.{nat_tests}
use Rattle.std.specs.Int.Signed.{lt_z}
use Rattle.std.specs.Option.{option_flatten, option_or}
use Rattle.std.proofs.lemmas.Bool.{eq-eqb, or_parts, not-false}
use Rattle.std.proofs.lemmas.Option.{none-some}
use Rattle.events.specs.Event.{obeyed_of, party_of_company}
use Rattle.events.specs.Offers.{offered_in, same_offer}
use Rattle.events.specs.Orders.{said_by}
use Rattle.events.specs.RuleCodes.{code_of_private_rule, code_of_train_rule}
use Rattle.events.specs.declared.event.Event.{Event}
use Rattle.events.specs.declared.event.Holder.{Holder}
use Rattle.events.specs.declared.event.Holder.TheVariants as holder
use Rattle.events.specs.declared.ruling.PrivateRule.{PrivateRule}
use Rattle.events.specs.declared.ruling.PrivateRule.TheVariants as private_rule
use Rattle.events.specs.declared.ruling.Refusal.{Refusal}
use Rattle.events.specs.declared.ruling.Refusal.TheVariants as refusal
use Rattle.events.specs.declared.ruling.Ruling.{Ruling}
use Rattle.events.specs.declared.ruling.Ruling.TheVariants as ruling
use Rattle.events.specs.declared.ruling.TrainRule.{TrainRule}
use Rattle.events.specs.declared.ruling.TrainRule.TheVariants as train_rule
use Rattle.moves.proofs.OneMoreRuling.{same_cash, same_owner, same_phase, same_president, trains_alike}
use Rattle.moves.proofs.RowRulings.{told_private, told_train}
use Rattle.moves.specs.CompanyRows.{asked_for_private, asked_for_train, asked_of_owner, private_answer}
use Rattle.moves.specs.CompanyRows.{private_refusal_by, train_answer, train_cost, train_refusal_by}
use Rattle.moves.specs.ConsentLaws.{NoRoundBegins, OfferedPrivatesAreObeyed, OfferedPrivatesAreTold}
use Rattle.moves.specs.ConsentLaws.{OfferedTrainsAreObeyed, OfferedTrainsAreTold, offer_line}
use Rattle.moves.specs.RowLaws.{private_told, train_told}
use Rattle.moves.specs.Rows.{answer_if_given}
use Rattle.moves.specs.declared.row.Answer.{Answer}
use Rattle.moves.specs.declared.row.Answer.TheVariants.{Obeyed, WithConsent, Refused}
use Rattle.operating.specs.Pay.{withheld}
use Rattle.operating.specs.Progress.{pay_done}
use Rattle.operating.specs.TurnState.{TurnState, ruled, turn_state}
use Rattle.order_grammar.specs.declared.condition.Condition.{Condition}
use Rattle.order_grammar.specs.declared.order.Offer.{Offer}
use Rattle.order_grammar.specs.declared.order.Offer.TheVariants as offer
use Rattle.order_grammar.specs.declared.order.Order.TheVariants as order
use Rattle.order_grammar.specs.declared.order.TrainSource.{TrainSource}
use Rattle.order_grammar.specs.declared.order.TrainSource.TheVariants as source
use Rattle.order_grammar.specs.declared.play.PlayOrder.TheVariants as play
use Rattle.purchases.specs.Private.{is_given_by, is_too_early, is_wrong_price, owner_agrees_by, private_bought}
use Rattle.purchases.specs.Private.{private_judgement_by, private_rules_by}
use Rattle.purchases.specs.Private.{private_costs_too_much}
use Rattle.purchases.specs.Train.{after_train, is_at_train_limit, is_not_sellers, lacks_consent_by}
use Rattle.purchases.specs.Train.{presidents_agree_by, purchase_of, train_costs_too_much, train_judgement_by}
use Rattle.purchases.specs.Train.{train_purchase_rules_by}
use Rattle.purchases.specs.declared.consents.Consents.TheVariants.{All, OfGame}
use Rattle.purchases.specs.declared.train.TrainPurchase.{TrainPurchase}
use Rattle.purchases.proofs.TrainsAlike.{same_full, same_seller}
use Rattle.tables.proofs.Rules.{not_broken}
use Rattle.tables.specs.Roster.{same_private}
use Rattle.tables.specs.Rules.{first_broken}
use Rattle.tables.specs.Train.{index_of_kind}
use Rattle.tables.specs.declared.rolling_stock.Kind.{Kind}
use Rattle.tables.specs.declared.rolling_stock.Kind.TheVariants.{Three}
use Rattle.tables.specs.declared.roster.Company.{Company}
use Rattle.tables.specs.declared.roster.Private.{Private}
use Rattle.tables.specs.declared.roster.Private.TheVariants.{BaltimoreOhio}
use Rattle.tables.specs.declared.seat.Seat.{Seat}
use Rattle.totals.proofs.EventAtEnd.{option_or_assoc}
use Rattle.totals.specs.LookBack.{Game, in_round, last_said, owner_of}
use Rattle.totals.specs.Offers.{has_offered}
use Rattle.totals.specs.Shares.{president_of}
use Rattle.turns.proofs.Ruled.{none_as_refusal}

same_as_itself : (sale : Offer) → same_offer sale sale ≡ true
same_as_itself (offer.Private private buyer price) = grind (arith, nat_tests)
same_as_itself (offer.Train kind seller buyer price) = grind (arith, nat_tests)

-- a word that is said, or an earlier one
word_or : {A : Type 0} (said : Option A) (earlier : A)
    → option_or (option_map (λ (a : A). Some a) said) (Some (Some earlier)) ≡ Some (Some (unwrap_or said earlier))
word_or None earlier = refl
word_or (Some word) earlier = refl

-- what is said in a round holds to its end
holds_on : {A : Type 0} (says : Event → Option A) (after : List Event) → NoRoundBegins after → (word : A)
    → is_some (option_flatten (option_or (last_said (in_round says) after) (Some (Some word)))) ≡ true
holds_on says [] none word = refl
holds_on {A} says (event ∷ after) none word =
    let later : Option (Option A) = last_said (in_round says) after in
    let here : in_round says event ≡ option_map (λ (a : A). Some a) (says event) =
    ap (λ begun. if is_some begun then Some None else option_map (λ (a : A). Some a) (says event)) none.0 in
    ap (λ (found : Option (Option A)). is_some (option_flatten found))
    (option_or_assoc later (in_round says event) (Some (Some word))
    ∙ ap (λ (found : Option (Option A)). option_or later (option_or found (Some (Some word)))) here
    ∙ ap (λ (found : Option (Option A)). option_or later found) (word_or (says event) word))
    ∙ holds_on says after none.1 (unwrap_or (says event) word)

-- what holds at the end of a list holds behind whatever came before
later_holds : {A : Type 0} (later earlier : Option (Option A)) → is_some (option_flatten later) ≡ true
    → is_some (option_flatten (option_or later earlier)) ≡ true
later_holds None earlier holds = absurd (cc)
later_holds (Some word) earlier holds = holds

holds_behind : {A : Type 0} (says : Event → Option (Option A)) (before events : List Event)
    → is_some (option_flatten (last_said says events)) ≡ true
    → is_some (option_flatten (last_said says (before ++ events))) ≡ true
holds_behind says [] events holds = holds
holds_behind says (first ∷ before) events holds =
    later_holds (last_said says (before ++ events)) (says first) (holds_behind says before events holds)

-- an OFFER that was obeyed in this round is an offer
is_offered : (before after : List Event) (giver : Seat) (number : ℕ) (condition : Option Condition) (sale : Offer)
    → NoRoundBegins after → has_offered (before ++ offer_line giver number condition sale ∷ after) giver sale ≡ true
is_offered before after giver number condition sale none =
    let says : Event → Option Offer = λ event. said_by giver (offered_in sale) (obeyed_of event) in
    let line : Event = offer_line giver number condition sale in
    let word : says line ≡ Some sale =
    ap (λ (b : Bool). if b then offered_in sale (order.Play (play.Offer sale)) else None) (eq-eqb giver.0 giver.0 refl)
    ∙ ap (λ (b : Bool). if b then Some sale else None) (same_as_itself sale) in
    let here : in_round says line ≡ Some (Some sale) = ap (option_map (λ (its : Offer). Some its)) word in
    holds_behind (in_round says) before (line ∷ after)
    (ap (λ (found : Option (Option Offer)).
    is_some (option_flatten (option_or (last_said (in_round says) after) found))) here
    ∙ holds_on says after none sale)

-- a sale is agreed that everybody's consent would let through, once its giver offers it
agreed_then : (old new : List Event) (giver : Seat) (taker : Option Seat) (sale : Offer)
    → presidents_agree_by All old (Some giver) taker sale ≡ true → has_offered new giver sale ≡ true
    → presidents_agree_by OfGame new (Some giver) taker sale ≡ true
agreed_then old new giver None sale all offers = absurd (cc)
agreed_then old new giver (Some taker) sale all offers =
    ap (λ (b : Bool). giver.0 == taker.0 || b) offers ∙ or_true (giver.0 == taker.0)
  where
    or_true : (b : Bool) → (b || true) ≡ true
    or_true true = refl
    or_true false = refl

owner_agrees_then : (old new : List Event) (giver : Seat) (taker : Option Seat) (sale : Offer)
    → owner_agrees_by All old (Some (holder.Seat giver)) taker sale ≡ true → has_offered new giver sale ≡ true
    → owner_agrees_by OfGame new (Some (holder.Seat giver)) taker sale ≡ true
owner_agrees_then old new giver None sale all offers = absurd (cc)
owner_agrees_then old new giver (Some taker) sale all offers =
    agreed_then old new giver (Some taker) sale refl offers

-- who is to consent, and to what, if somebody is asked
abbrev giver_in : Option (Seat × Offer) → Option Seat
giver_in None = None
giver_in (Some pair) = Some pair.0

abbrev owner_in : Option (Seat × Offer) → Option Holder
owner_in None = None
owner_in (Some pair) = Some (holder.Seat pair.0)

abbrev offer_in : Offer → Option (Seat × Offer) → Offer
offer_in other None = other
offer_in other (Some pair) = pair.1

-- who is asked for a train, and for what
asked_by : (president : Option Seat) (sale : Offer) (giver : Seat) (named : Offer)
    → option_map {U = Seat × Offer} (λ (p : Seat). (p, sale)) president ≡ Some (giver, named)
    → (president ≡ Some giver) × (sale ≡ named)
asked_by None sale giver named asked = absurd (none-some (giver, named) asked)
asked_by (Some president) sale giver named asked = (ap giver_in asked, ap (offer_in sale) asked)

-- and for a private
asked_owner : (owner : Option Holder) (sale : Offer) (giver : Seat) (named : Offer)
    → asked_of_owner owner sale ≡ Some (giver, named) → (owner ≡ Some (holder.Seat giver)) × (sale ≡ named)
asked_owner None sale giver named asked = absurd (none-some (giver, named) asked)
asked_owner (Some (holder.Company company)) sale giver named asked = absurd (none-some (giver, named) asked)
asked_owner (Some (holder.Seat owner)) sale giver named asked = (ap owner_in asked, ap (offer_in sale) asked)

-- what an answer says of a consent
abbrev consent_in : Answer → Option (Seat × Offer)
consent_in (Obeyed price) = None
consent_in (WithConsent price giver sale) = Some (giver, sale)
consent_in (Refused rule) = None

abbrev price_in : Answer → ℤ
price_in (Obeyed price) = price
price_in (WithConsent price giver sale) = price
price_in (Refused rule) = pos 0

-- where an answer names a consent, no rule is broken if everybody consents, and this is who is asked
record NamesConsent (cost : ℤ) (given : Option Refusal) (asked : Option (Seat × Offer)) (price : ℤ) (giver : Seat)
    (sale : Offer) : Type 0 where
  costs : cost ≡ price
  free : given ≡ None
  asks : asked ≡ Some (giver, sale)

consent_named : (cost : ℤ) (broken given : Option Refusal) (asked : Option (Seat × Offer)) (price : ℤ) (giver : Seat)
    (sale : Offer) → answer_if_given cost broken given asked ≡ WithConsent price giver sale
    → NamesConsent cost given asked price giver sale
consent_named cost None given asked price giver sale is = absurd (none-some (giver, sale) (ap consent_in is))
consent_named cost (Some rule) (Some other) asked price giver sale is =
    absurd (none-some (giver, sale) (ap consent_in is))
consent_named cost (Some rule) None None price giver sale is = absurd (none-some (giver, sale) (ap consent_in is))
consent_named cost (Some rule) None (Some (p, named)) price giver sale is =
    record { costs = ap price_in is; free = refl; asks = ap consent_in is }

-- an answer to an order that breaks no rule
obeyed_at : (cost price : ℤ) (broken given : Option Refusal) (asked : Option (Seat × Offer)) → broken ≡ None
    → cost ≡ price → answer_if_given cost broken given asked ≡ Obeyed price
obeyed_at cost price broken given asked none costs =
    ap (λ (rule : Option Refusal). answer_if_given cost rule given asked) none ∙ ap (λ (sum : ℤ). Obeyed sum) costs

-- the first rule that the purchase of a train of a company breaks, by what is tested of it
abbrev train_broken : Bool → Bool → Bool → Bool → Option TrainRule
train_broken full dear lacks others =
    first_broken (record { code = train_rule.NotOnSale; broken = false }
    ∷ record { code = train_rule.TrainLimit; broken = full }
    ∷ record { code = train_rule.CashTooSmall; broken = dear }
    ∷ record { code = train_rule.NoConsent; broken = lacks }
    ∷ record { code = train_rule.NotSellers; broken = others }
    ∷ record { code = train_rule.NoTradeIn; broken = false }
    ∷ [])

-- and that of a private
abbrev private_broken : Private → ℕ → Bool → Bool → Bool → Option PrivateRule
private_broken private price early lacks dear =
    first_broken (record { code = private_rule.TooEarly; broken = early }
    ∷ record { code = private_rule.WrongPrice; broken = is_wrong_price private price }
    ∷ record { code = private_rule.NoConsent; broken = lacks }
    ∷ record { code = private_rule.NeverSold; broken = same_private private BaltimoreOhio }
    ∷ record { code = private_rule.CashTooSmall; broken = dear }
    ∷ [])

-- a train of a company that everybody's consent would let through is bought, once its giver offers it
train_kept : (seats : ℕ) (before after : List Event) (giver : Seat) (number : ℕ) (condition : Option Condition)
    (buyer seller : Company) (kind : Kind) (price : ℕ) → NoRoundBegins after
    → president_of (before ++ after) seller ≡ Some giver
    → train_judgement_by All (record { seats = seats; events = before ++ after }) buyer
    (purchase_of kind (source.Company seller price)) ≡ None
    → train_judgement_by OfGame (record {
      seats = seats;
      events = before ++ offer_line giver number condition (offer.Train kind seller buyer price) ∷ after;
    }) buyer (purchase_of kind (source.Company seller price)) ≡ None
train_kept seats before after giver number condition buyer seller kind price none leads kept =
    let sale : Offer = offer.Train kind seller buyer price in
    let done : Ruling = ruling.Obeyed condition (order.Play (play.Offer sale)) in
    let old : List Event = before ++ after in
    let new : List Event = before ++ offer_line giver number condition sale ∷ after in
    let game : Game = record { seats = seats; events = old } in
    let offered : Game = record { seats = seats; events = new } in
    let purchase : TrainPurchase = purchase_of kind (source.Company seller price) in
    let row = not_broken code_of_train_rule (train_purchase_rules_by All game buyer purchase) kept
    train_rule.NoConsent in
    let agree : Bool = presidents_agree_by All old (president_of old seller) (president_of old buyer) sale in
    let parts = or_parts (price == 0) (not agree) row in
    let all : presidents_agree_by All old (Some giver) (president_of old buyer) sale ≡ true =
    subst (λ (p : Option Seat). presidents_agree_by All old p (president_of old buyer) sale ≡ true) leads
    (not-false agree parts.1) in
    let agreed : presidents_agree_by OfGame new (president_of new seller) (president_of new buyer) sale ≡ true =
    ap (λ (p : Option Seat). presidents_agree_by OfGame new p (president_of new buyer) sale)
    (same_president before after giver number done seller ∙ leads)
    ∙ ap (λ (p : Option Seat). presidents_agree_by OfGame new (Some giver) p sale)
    (same_president before after giver number done buyer)
    ∙ agreed_then old new giver (president_of old buyer) sale all
    (is_offered before after giver number condition sale none) in
    let lacks : lacks_consent_by OfGame new buyer purchase ≡ lacks_consent_by All old buyer purchase =
    ap (λ (b : Bool). price == 0 || not b) agreed ∙ ap (λ (b : Bool). b || false) parts.0 ∙ sym row in
    let full_now : Bool = is_at_train_limit old buyer None in
    let dear_then : Bool = train_costs_too_much offered buyer purchase in
    let dear_now : Bool = train_costs_too_much game buyer purchase in
    let others_then : Bool = is_not_sellers new buyer kind purchase.from in
    let lacks_then : Bool = lacks_consent_by OfGame new buyer purchase in
    let lacks_now : Bool = lacks_consent_by All old buyer purchase in
    ap (λ (full : Bool). train_broken full dear_then lacks_then others_then)
    (same_full (trains_alike before after giver number done) buyer None
    (same_phase before after giver number done))
    ∙ ap (λ (cash : ℤ). train_broken full_now (lt_z cash (pos price)) lacks_then others_then)
    (same_cash before after giver number done seats (party_of_company buyer))
    ∙ ap (λ (lack : Bool). train_broken full_now dear_now lack others_then) lacks
    ∙ ap (λ (others : Bool). train_broken full_now dear_now lacks_now others)
    (same_seller (trains_alike before after giver number done) buyer kind purchase.from)
    ∙ kept

-- so is a private
private_kept : (seats : ℕ) (before after : List Event) (giver : Seat) (number : ℕ) (condition : Option Condition)
    (buyer : Company) (private : Private) (price : ℕ) → NoRoundBegins after
    → owner_of (before ++ after) private ≡ Some (holder.Seat giver)
    → private_judgement_by All (record { seats = seats; events = before ++ after }) buyer private price ≡ None
    → private_judgement_by OfGame (record {
      seats = seats;
      events = before ++ offer_line giver number condition (offer.Private private buyer price) ∷ after;
    }) buyer private price ≡ None
private_kept seats before after giver number condition buyer private price none owns kept =
    let sale : Offer = offer.Private private buyer price in
    let done : Ruling = ruling.Obeyed condition (order.Play (play.Offer sale)) in
    let old : List Event = before ++ after in
    let new : List Event = before ++ offer_line giver number condition sale ∷ after in
    let game : Game = record { seats = seats; events = old } in
    let offered : Game = record { seats = seats; events = new } in
    let row = not_broken code_of_private_rule (private_rules_by All game buyer private price) kept
    private_rule.NoConsent in
    let given : Bool = is_given_by All old buyer private price in
    let all : owner_agrees_by All old (Some (holder.Seat giver)) (president_of old buyer) sale ≡ true =
    subst (λ (owner : Option Holder). owner_agrees_by All old owner (president_of old buyer) sale ≡ true) owns
    (not-false given row) in
    let agreed : is_given_by OfGame new buyer private price ≡ true =
    ap (λ (owner : Option Holder). owner_agrees_by OfGame new owner (president_of new buyer) sale)
    (same_owner before after giver number done private ∙ owns)
    ∙ ap (λ (p : Option Seat). owner_agrees_by OfGame new (Some (holder.Seat giver)) p sale)
    (same_president before after giver number done buyer)
    ∙ owner_agrees_then old new giver (president_of old buyer) sale all
    (is_offered before after giver number condition sale none) in
    let lacks : not (is_given_by OfGame new buyer private price) ≡ not (is_given_by All old buyer private price) =
    ap not agreed ∙ sym row in
    let early_now : Bool = is_too_early old in
    let dear_then : Bool = private_costs_too_much offered buyer price in
    let lacks_then : Bool = not (is_given_by OfGame new buyer private price) in
    let lacks_now : Bool = not (is_given_by All old buyer private price) in
    ap (λ (phase : Kind).
    private_broken private price (nat_lt (index_of_kind phase) (index_of_kind Three)) lacks_then dear_then)
    (same_phase before after giver number done)
    ∙ ap (λ (lack : Bool). private_broken private price early_now lack dear_then) lacks
    ∙ ap (λ (cash : ℤ). private_broken private price early_now lacks_now (lt_z cash (pos price)))
    (same_cash before after giver number done seats (party_of_company buyer))
    ∙ kept

-- a train whose row names a consent is one of a company
train_told_from : (seats : ℕ) (before after : List Event) (number : ℕ) (condition : Option Condition)
    (company : Company) (kind : Kind) (from : TrainSource) (price : ℤ) (giver : Seat) (sale : Offer)
    → NoRoundBegins after → pos (train_cost kind from) ≡ price
    → train_refusal_by All (record { seats = seats; events = before ++ after }) company kind from ≡ None
    → asked_for_train (before ++ after) company kind from ≡ Some (giver, sale)
    → train_answer (record {
      seats = seats;
      events = before ++ offer_line giver number condition sale ∷ after;
    }) company kind from ≡ Obeyed price
unfolding train_refusal_by
train_told_from seats before after number condition company kind source.Bank price giver sale none costs free asks =
    absurd (none-some (giver, sale) asks)
train_told_from seats before after number condition company kind (source.Trade other) price giver sale none costs free asks =
    absurd (none-some (giver, sale) asks)
train_told_from seats before after number condition company kind source.BankPool price giver sale none costs free asks =
    absurd (none-some (giver, sale) asks)
train_told_from seats before after number condition company kind (source.Company seller cost) price giver sale none costs
    free asks =
    let game : Game = record { seats = seats; events = before ++ after } in
    let parts = asked_by (president_of (before ++ after) seller) (offer.Train kind seller company cost) giver sale asks in
    let its : TrainSource = source.Company seller cost in
    let kept = train_kept seats before after giver number condition company seller kind cost none parts.0
    (none_as_refusal refusal.Train (train_judgement_by All game company (purchase_of kind its)) free) in
    subst (λ (s : Offer). train_answer (record {
      seats = seats;
      events = before ++ offer_line giver number condition s ∷ after;
    }) company kind its ≡ Obeyed price) parts.1
    (obeyed_at (pos (train_cost kind its)) price _ _ _ (ap (option_map refusal.Train) kept) costs)

train_told_of : (seats : ℕ) (before after : List Event) (number : ℕ) (condition : Option Condition)
    (company : Company) (kind : Kind) (from : TrainSource) (price : ℤ) (giver : Seat) (sale : Offer)
    → NoRoundBegins after
    → train_answer (record { seats = seats; events = before ++ after }) company kind from
    ≡ WithConsent price giver sale
    → train_answer (record {
      seats = seats;
      events = before ++ offer_line giver number condition sale ∷ after;
    }) company kind from ≡ Obeyed price
train_told_of seats before after number condition company kind from price giver sale none told =
    let game : Game = record { seats = seats; events = before ++ after } in
    let named = consent_named (pos (train_cost kind from)) (train_refusal_by OfGame game company kind from)
    (train_refusal_by All game company kind from) (asked_for_train game.events company kind from) price giver sale told in
    train_told_from seats before after number condition company kind from price giver sale none named.costs named.free
    named.asks

private_told_of : (seats : ℕ) (before after : List Event) (number : ℕ) (condition : Option Condition)
    (company : Company) (private : Private) (cost : ℕ) (price : ℤ) (giver : Seat) (sale : Offer)
    → NoRoundBegins after
    → private_answer (record { seats = seats; events = before ++ after }) company private cost
    ≡ WithConsent price giver sale
    → private_answer (record {
      seats = seats;
      events = before ++ offer_line giver number condition sale ∷ after;
    }) company private cost ≡ Obeyed price
unfolding private_refusal_by
private_told_of seats before after number condition company private cost price giver sale none told =
    let game : Game = record { seats = seats; events = before ++ after } in
    let named = consent_named (pos cost) (private_refusal_by OfGame game company private cost)
    (private_refusal_by All game company private cost) (asked_for_private game.events company private cost) price giver
    sale told in
    let parts = asked_owner (owner_of game.events private) (offer.Private private company cost) giver sale named.asks in
    let kept = private_kept seats before after giver number condition company private cost none parts.0
    (none_as_refusal refusal.Private (private_judgement_by All game company private cost) named.free) in
    subst (λ (s : Offer). private_answer (record {
      seats = seats;
      events = before ++ offer_line giver number condition s ∷ after;
    }) company private cost ≡ Obeyed price) parts.1
    (obeyed_at (pos cost) price _ _ _ (ap (option_map refusal.Private) kept) named.costs)

-- by the games
pub offered_trains_told : OfferedTrainsAreTold
offered_trains_told game offered company kind from price giver sale told is =
    subst (λ (g : Game). train_answer g company kind from ≡ Obeyed price) (sym is.offered_is)
    (train_told_of game.seats is.before is.after is.number is.condition company kind from price giver sale is.same_round
    (subst (λ (g : Game). train_answer g company kind from ≡ WithConsent price giver sale) is.game_is told))

pub offered_privates_told : OfferedPrivatesAreTold
offered_privates_told game offered company private cost price giver sale told is =
    subst (λ (g : Game). private_answer g company private cost ≡ Obeyed price) (sym is.offered_is)
    (private_told_of game.seats is.before is.after is.number is.condition company private cost price giver sale
    is.same_round (subst (λ (g : Game). private_answer g company private cost ≡ WithConsent price giver sale) is.game_is
    told))

-- and the line is obeyed
pub offered_trains_obeyed : OfferedTrainsAreObeyed
offered_trains_obeyed by turn offered line kind from price giver sale new past told is leads =
    let there : TurnState = turn_state offered turn.progress in
    let ruled_by : TurnState → Option Refusal → TurnState = λ turn rule. ruled by turn line (order.Play (play.BuyTrain kind from)) rule
    (λ (after : TurnState). turn_state (after_train after.game by.company (purchase_of kind from)) after.progress) in
    leads
    ∙ ap (λ (b : Bool). let paid : TurnState = if b then turn_state (withheld offered by.company turn.progress.runs.revenue) (pay_done turn.progress) else there in
    ruled_by paid (option_map refusal.Train (train_judgement_by OfGame paid.game by.company (purchase_of kind from)))) past
    ∙ ap (ruled_by there) (sym (told_train offered by.company kind from))
    ∙ ap (train_told by there line kind from)
    (offered_trains_told turn.game offered by.company kind from price giver sale told is)

pub offered_privates_obeyed : OfferedPrivatesAreObeyed
offered_privates_obeyed by turn offered line private cost price giver sale new told is leads =
    let there : TurnState = turn_state offered turn.progress in
    leads
    ∙ ap (λ (rule : Option Refusal). ruled by there line (order.Play (play.BuyOwnedPrivate private cost)) rule
    (λ (after : TurnState). turn_state (private_bought after.game by.company private cost) after.progress))
    (sym (told_private offered by.company private cost))
    ∙ ap (private_told by there line private cost)
    (offered_privates_told turn.game offered by.company private cost price giver sale told is)
