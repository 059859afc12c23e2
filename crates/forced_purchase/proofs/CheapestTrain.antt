-- The train that a company must buy is for sale, and once its president has paid what it lacks no
-- rule of a purchase is broken.
use Rattle.std.proofs.Common.{◌≡◌, ◌⊎◌, ℕ, ◌≤◌, Bool, true, false, not, ◌&&◌, nat_lt, if◌then◌else◌, List}
use Rattle.std.proofs.Common.{[], ◌∷◌, Option, Some, None, ℤ, pos, negsuc, ◌≤ℤ◌, ◌<ℤ◌, ◌+ℤ◌, ◌-ℤ◌, inl, inr, refl}
use Rattle.std.proofs.Common.{sym, ap, subst, ◌∙◌, arith}
use Rattle.std.proofs.lemmas.Bool.{lt-ltb, ltb-false, or_left, or_right, not_from_true}
use Rattle.std.proofs.lemmas.Int.{ints}
use Rattle.std.specs.Int.Signed.{lt_z}
use Rattle.std.specs.List.{AllByRecursion}
use Rattle.events.specs.Event.{party_of_company}
use Rattle.events.specs.declared.event.Event.{Event}
use Rattle.events.specs.declared.event.Event.TheVariants as event
use Rattle.events.specs.declared.event.TrainSeller.{TrainSeller}
use Rattle.events.specs.declared.event.TrainSeller.TheVariants as seller
use Rattle.totals.proofs.EventAtEnd.{cash_of_at_end}
use Rattle.totals.specs.LookBack.{Game, cash_of, with_event}
use Rattle.totals.specs.Trains.{phase_of, at_least_zero, train_count, trains_held, trains_sold}
use Rattle.forced_purchase.specs.Forced.{with_aid}
use Rattle.forced_purchase.specs.Shortfall.{cheapest, first_on_sale, lack_of, purchase_without_trade_in}
use Rattle.purchases.specs.Train.{first_left, first_left_of, has_trains, is_at_train_limit, is_kind, is_left}
use Rattle.purchases.specs.Train.{is_not_sellers, is_on_sale, lacks_consent, numbered_kinds, sells, sells_diesels}
use Rattle.purchases.specs.Train.{train_costs_too_much, train_judgement, train_purchase_cost, train_purchase_rules}
use Rattle.forced_purchase.specs.declared.operator.Operator.{Operator}
use Rattle.purchases.specs.declared.train.TrainPurchase.{TrainPurchase}
use Rattle.purchases.proofs.TrainsAlike.{alike_at_end, same_sale}
use Rattle.forced_purchase.proofs.TrainCounts.{size_before}
use Rattle.tables.specs.Roster.{same_company}
use Rattle.tables.specs.Rules.{AreKept, Rule, first_broken}
use Rattle.tables.specs.Train.{limit_of, same_kind, trains_of}
use Rattle.tables.specs.declared.rolling_stock.Kind.{Kind}
use Rattle.tables.specs.declared.rolling_stock.Kind.TheVariants.{Two, Three, Four, Five, Six, Diesel}
use Rattle.tables.specs.declared.roster.Company.{Company}
use Rattle.tables.proofs.Companies.{company_itself}
use Rattle.tables.proofs.TrainKinds.{kind_itself}

-- a kind is one of some
abbrev IsOneOf : Kind → List Kind → Type 0
IsOneOf kind [] = ⊥
IsOneOf kind (other ∷ others) = (other ≡ kind) ⊎ IsOneOf kind others

module _ (events : List Event) where
  -- what is not the first that is left is not left
  none_left : (some : List Kind) → first_left_of events some ≡ None
      → AllByRecursion (λ kind. is_left events kind ≡ false) some
  none_left [] none = tt
  none_left (kind ∷ others) none =
      elim (is_left events kind) as (λ (b : Bool). is_left events kind ≡ b
      → (if b then Some kind else first_left_of events others) ≡ None
      → AllByRecursion (λ its. is_left events its ≡ false) (kind ∷ others)) [
        | true ↦ λ is wrong. absurd cc
        | false ↦ λ is rest. (is, none_left others rest)
      ]
      refl none

  -- the first that is left is one of them
  first_among : (some : List Kind) (kind : Kind) → first_left_of events some ≡ Some kind → IsOneOf kind some
  first_among [] kind is = absurd cc
  first_among (first ∷ others) kind is =
      elim (is_left events first) as (λ (b : Bool). (if b then Some first else first_left_of events others)
      ≡ Some kind → IsOneOf kind (first ∷ others)) [
        | true ↦ λ same. inl (let one : first ≡ kind = cc in one)
        | false ↦ λ later. inr (first_among others kind later)
      ]
      is

  -- with none of the others left, the bank sells a D
  sells_d : first_left events ≡ None → sells events Diesel ≡ true
  sells_d none =
      let kept = none_left numbered_kinds none in
      let sixes : nat_lt (trains_sold events Six) 2 ≡ false = kept.1.1.1.1.0 in
      let sold : 2 ≤ trains_sold events Six = ltb-false (trains_sold events Six) 2 sixes in
      or_right (is_kind (first_left events) Diesel) (same_kind Diesel Diesel && sells_diesels events)
      (lt-ltb 0 (trains_sold events Six) (omega arith))

  -- the bank sells the first that is left
  sells_first : (kind : Kind) → first_left events ≡ Some kind → sells events kind ≡ true
  sells_first kind is =
      or_left (is_kind (first_left events) kind) (same_kind kind Diesel && sells_diesels events)
      (ap (λ (found : Option Kind). is_kind found kind) is ∙ kind_itself kind)

  -- the bank sells a D, or one of some kinds
  abbrev SellsOne : List Kind → Type 0
  SellsOne some = (sells events Diesel ≡ true) ⊎ ((kind : Kind) × IsOneOf kind some × (sells events kind ≡ true))

  sells_one : SellsOne numbered_kinds
  sells_one =
      elim (first_left events) as (λ (found : Option Kind). first_left events ≡ found → SellsOne numbered_kinds) [
        | None ↦ λ is. inl (sells_d is)
        | Some kind ↦ λ is. inr (kind, first_among numbered_kinds kind is, sells_first kind is)
      ]
      refl

  -- it sells one of the others where it does not sell the first
  sells_other : (kind : Kind) (others : List Kind) → sells events kind ≡ false → SellsOne (kind ∷ others)
      → SellsOne others
  sells_other kind others not_it (inl diesel) = inl diesel
  sells_other kind others not_it (inr one) =
      elim one.1 [
        | inl here ↦ absurd (let wrong : true ≡ false = sym one.2 ∙ ap (sells events) (sym here) ∙ not_it in cc)
        | inr later ↦ inr (one.0, later, one.2)
      ]

  -- the pool has one of a kind
  abbrev is_pooled : Kind → Bool
  is_pooled kind = lt_z (pos 0) (trains_held events None kind)

  -- what is bought first is for sale
  on_sale : (some : List Kind) → SellsOne some → is_on_sale events (first_on_sale events some).from
      (first_on_sale events some).kind ≡ true
  unfolding first_on_sale
  on_sale [] (inl diesel) = diesel
  on_sale [] (inr one) = absurd one.1
  on_sale (kind ∷ others) one =
      elim (sells events kind) as (λ (b : Bool). sells events kind ≡ b
      → is_on_sale events (if b then purchase_without_trade_in kind seller.Bank else (if is_pooled kind then purchase_without_trade_in kind
      seller.BankPool else first_on_sale events others)).from
      (if b then purchase_without_trade_in kind seller.Bank else (if is_pooled kind then purchase_without_trade_in kind seller.BankPool else first_on_sale
      events others)).kind ≡ true) [
        | true ↦ λ is. is
        | false ↦ λ not_it.
            elim (is_pooled kind) as (λ (b : Bool). is_pooled kind ≡ b
            → is_on_sale events (if b then purchase_without_trade_in kind seller.BankPool else first_on_sale events others).from
            (if b then purchase_without_trade_in kind seller.BankPool else first_on_sale events others).kind ≡ true) [
              | true ↦ λ is. is
              | false ↦ λ none. on_sale others (sells_other kind others not_it one)
            ]
            refl
      ]
      refl

  pub cheapest_on_sale : is_on_sale events (cheapest events).from (cheapest events).kind ≡ true
  unfolding cheapest
  cheapest_on_sale = on_sale numbered_kinds sells_one

  -- it is the bank's or the pool's, and none is traded in for it
  abbrev pub IsPlain : TrainPurchase → Type 0
  IsPlain purchase = (kind : Kind) × ((purchase ≡ purchase_without_trade_in kind seller.Bank) ⊎ (purchase ≡ purchase_without_trade_in kind seller.BankPool))

  first_plain : (some : List Kind) → IsPlain (first_on_sale events some)
  unfolding first_on_sale
  first_plain [] = (Diesel, inl refl)
  first_plain (kind ∷ others) =
      elim (sells events kind) as (λ (b : Bool). IsPlain
      (if b then purchase_without_trade_in kind seller.Bank else (if is_pooled kind then purchase_without_trade_in kind seller.BankPool else first_on_sale
      events others))) [
        | true ↦ (kind, inl refl)
        | false ↦
            elim (is_pooled kind) as (λ (b : Bool). IsPlain
            (if b then purchase_without_trade_in kind seller.BankPool else first_on_sale events others)) [
              | true ↦ (kind, inr refl)
              | false ↦ first_plain others
            ]
      ]

  pub cheapest_plain : IsPlain (cheapest events)
  unfolding cheapest
  cheapest_plain = first_plain numbered_kinds

-- a phase allows a train
pub limit_low : (phase : Kind) → 1 ≤ limit_of phase
limit_low Two = omega arith
limit_low Three = omega arith
limit_low Four = omega arith
limit_low Five = omega arith
limit_low Six = omega arith
limit_low Diesel = omega arith

-- the test of less
pub less_is : (a b : ℤ) → a <ℤ b → lt_z a b ≡ true
less_is a b less = by_test (lt_z a b) refl
  where
    by_test : (test : Bool) → lt_z a b ≡ test → lt_z a b ≡ true
    by_test true is = is
    by_test false is = let not_so : b ≤ℤ a = grind (arith, ints, is) in let wrong : 1 ≤ 0 =
        omega (arith, ints, not_so, less) in absurd (omega arith)

pub not_less_is : (a b : ℤ) → b ≤ℤ a → lt_z a b ≡ false
not_less_is a b least = by_test (lt_z a b) refl
  where
    by_test : (test : Bool) → lt_z a b ≡ test → lt_z a b ≡ false
    by_test false is = is
    by_test true is = let so : a <ℤ b = grind (arith, ints, is) in let wrong : 1 ≤ 0 =
        omega (arith, ints, so, least) in absurd (omega arith)

room : (size : ℤ) (limit : ℕ) → lt_z (pos 0) size ≡ false → 1 ≤ limit → not (lt_z (size -ℤ pos 0) (pos limit)) ≡ false
room size limit none low =
    let few : size ≤ℤ pos 0 = grind (arith, ints, none) in
    not_from_true (lt_z (size -ℤ pos 0) (pos limit)) (less_is (size -ℤ pos 0) (pos limit) (omega (arith, ints, few, low)))

-- a table of which each rule is kept
all_kept : {Code : Type 0} (rules : List (Rule Code)) → AreKept rules → first_broken rules ≡ None
all_kept [] kept = refl
all_kept (rule ∷ rules) kept =
    ap (λ (b : Bool). if b then Some rule.code else first_broken rules) kept.0 ∙ all_kept rules kept.1

module _ (game : Game) (company : Company) (none : has_trains game.events company ≡ false) where
  -- a purchase of the bank or of the pool, for which no company has to consent
  from_there : (from : TrainSeller) (kind : Kind) → lacks_consent game.events company (purchase_without_trade_in kind from) ≡ false
      → is_not_sellers game.events company kind from ≡ false → is_on_sale game.events from kind ≡ true
      → train_costs_too_much game company (purchase_without_trade_in kind from) ≡ false
      → train_judgement game company (purchase_without_trade_in kind from) ≡ None
  from_there from kind given theirs sale enough =
      let has_room : is_at_train_limit game.events company None ≡ false =
      room (train_count game.events (Some company)) (limit_of (phase_of game.events)) none
      (limit_low (phase_of game.events)) in
      all_kept (train_purchase_rules game company (purchase_without_trade_in kind from))
      (not_from_true (is_on_sale game.events from kind) sale, (has_room, (enough, (given, (theirs, (refl, tt))))))

  abbrev Allows : TrainPurchase → Type 0
  Allows purchase = is_on_sale game.events purchase.from purchase.kind ≡ true
      → train_costs_too_much game company purchase ≡ false → train_judgement game company purchase ≡ None

  -- of what is for sale, by a company without trains that has the price, breaks no rule
  plain_allowed : (events : List Event) (purchase : TrainPurchase) → IsPlain events purchase → Allows purchase
  plain_allowed events purchase its =
      elim its.1 [
        | inl is ↦ subst Allows (sym is) (from_there seller.Bank its.0 refl refl)
        | inr is ↦ subst Allows (sym is) (from_there seller.BankPool its.0 refl refl)
      ]

-- what a company has once it was paid what it lacks
paid_up : (cash lack : ℤ) (cost : ℕ) (same : Bool) → same ≡ true → lack ≡ (pos cost -ℤ cash)
    → lt_z (pos 0) lack ≡ true → lt_z ((cash +ℤ pos (if same then at_least_zero lack else 0)) -ℤ pos 0) (pos cost) ≡ false
paid_up cash lack cost false is lacks more = absurd cc
paid_up cash (pos amount) cost true is lacks more =
    not_less_is ((cash +ℤ pos amount) -ℤ pos 0) (pos cost) (omega (arith, ints, lacks))
paid_up cash (negsuc under) cost true is lacks more =
    absurd (let over : pos 0 <ℤ negsuc under = grind (arith, ints, more) in omega (arith, ints, over))

enough_before : (cash lack : ℤ) (cost : ℕ) → lack ≡ (pos cost -ℤ cash) → lt_z (pos 0) lack ≡ false
    → lt_z cash (pos cost) ≡ false
enough_before cash lack cost lacks none =
    let few : lack ≤ℤ pos 0 = grind (arith, ints, none) in
    not_less_is cash (pos cost) (omega (arith, ints, lacks, few))

-- once the president has paid what the company lacks, it has the price
aided : (by : Operator) (game : Game) → train_costs_too_much (with_aid by game) by.company (cheapest game.events) ≡ false
unfolding with_aid lack_of
aided by game =
    let purchase : TrainPurchase = cheapest game.events in
    let cost : ℕ = train_purchase_cost purchase in
    let cash : ℤ = cash_of game.seats game.events (party_of_company by.company) in
    let lack : ℤ = pos cost -ℤ cash in
    let its : Event = event.Aid by.president by.company (at_least_zero lack) in
    elim (lt_z (pos 0) lack) as (λ (b : Bool). lt_z (pos 0) lack ≡ b
    → train_costs_too_much (if b then with_event game its else game) by.company purchase ≡ false) [
      | true ↦ λ more.
          ap (λ (has : ℤ). lt_z has (pos cost)) (cash_of_at_end game.seats game.events its
          (party_of_company by.company))
          ∙ paid_up cash lack cost (same_company by.company by.company) (company_itself by.company) refl more
      | false ↦ λ enough. enough_before cash lack cost refl enough
    ]
    refl

-- with that the company still has no train, and what is for sale still is
aid_keeps : (by : Operator) (game : Game) → has_trains game.events by.company ≡ false
    → (has_trains (with_aid by game).events by.company ≡ false)
    × (is_on_sale (with_aid by game).events (cheapest game.events).from (cheapest game.events).kind ≡ true)
unfolding with_aid
aid_keeps by game none =
    let its : Event = event.Aid by.president by.company (at_least_zero (lack_of game by.company)) in
    elim (lt_z (pos 0) (lack_of game by.company)) as
    (λ (b : Bool). (has_trains (if b then with_event game its else game).events by.company ≡ false)
    × (is_on_sale (if b then with_event game its else game).events (cheapest game.events).from
    (cheapest game.events).kind ≡ true)) [
      | true ↦ (
        ap (lt_z (pos 0)) (size_before game.events its (Some by.company) refl) ∙ none,
        same_sale (alike_at_end game.events its refl) (cheapest game.events).from (cheapest game.events).kind
            ∙ cheapest_on_sale game.events,
      )
      | false ↦ (none, cheapest_on_sale game.events)
    ]

-- the purchase breaks no rule
pub forced_allowed : (by : Operator) (game : Game) → has_trains game.events by.company ≡ false
    → train_judgement (with_aid by game) by.company (cheapest game.events) ≡ None
forced_allowed by game none =
    let kept = aid_keeps by game none in
    plain_allowed (with_aid by game) by.company kept.0 game.events (cheapest game.events) (cheapest_plain game.events)
    kept.1 (aided by game)

-- and costs at most 1,100
price_low : (kind : Kind) → (trains_of kind).price ≤ 1100
price_low Two = omega arith
price_low Three = omega arith
price_low Four = omega arith
price_low Five = omega arith
price_low Six = omega arith
price_low Diesel = omega arith

pub cheapest_low : (events : List Event) → train_purchase_cost (cheapest events) ≤ 1100
cheapest_low events =
    let its = cheapest_plain events in
    elim its.1 [
      | inl is ↦ subst (λ (purchase : TrainPurchase). train_purchase_cost purchase ≤ 1100) (sym is) (price_low its.0)
      | inr is ↦ subst (λ (purchase : TrainPurchase). train_purchase_cost purchase ≤ 1100) (sym is) (price_low its.0)
    ]
