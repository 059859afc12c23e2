-- What follows if the purchase of a train breaks no rule: such a train is there, the company can
-- pay for it, and it has what it trades in. So the game can be played on once it is made.
use Rattle.std.proofs.Common.{◌≡◌, ℕ, ◌<◌, inl, inr, Bool, true, false, not, ◌&&◌, nat_lt, if◌then◌else◌}
use Rattle.std.proofs.Common.{List, [], ◌∷◌, ◌++◌, Option, Some, None, ℤ, pos, ◌≤ℤ◌, refl, sym, ap, subst, ◌∙◌, arith}
use Rattle.std.proofs.lemmas.Bool.{and_parts, or_cases, or_parts, not-false}
use Rattle.std.proofs.lemmas.Bool.Decides.{nat_tests}
use Rattle.std.proofs.lemmas.Int.{ints}
use Rattle.std.specs.Int.Signed.{lt_z}
use Rattle.events.specs.Event.{party_of_company, train_moved}
use Rattle.events.specs.RuleCodes.{code_of_train_rule}
use Rattle.events.specs.declared.event.Event.{Event}
use Rattle.events.specs.declared.event.Event.TheVariants as event
use Rattle.events.specs.declared.event.Party.{Party}
use Rattle.events.specs.declared.event.TrainPlace.TheVariants as place
use Rattle.events.specs.declared.event.TrainSeller.{TrainSeller}
use Rattle.events.specs.declared.event.TrainSeller.TheVariants as seller
use Rattle.events.specs.declared.ruling.TrainRule.TheVariants as rule
use Rattle.totals.proofs.EventAtEnd.{cash_of_before, trains_at_end}
use Rattle.history.proofs.Rolling.{sold_at_end}
use Rattle.history.proofs.TrainActs.{trade_sound, train_purchase_sound}
use Rattle.totals.specs.LookBack.{Game, cash_of, with_event}
use Rattle.history.specs.Sound.{IsSound}
use Rattle.totals.specs.Trains.{IsThere, one_if, train_goes, trains_held, trains_sold}
use Rattle.purchases.specs.Discard.{has_train}
use Rattle.purchases.specs.Train.{are_left, first_left_of, is_kind, is_left, is_no_trade_in, is_not_sellers}
use Rattle.purchases.specs.Train.{is_on_sale, may_be_traded, may_trade, numbered_kinds, train_judgement}
use Rattle.purchases.specs.Train.{train_purchase_cost, train_purchase_rules, with_trade}
use Rattle.purchases.specs.declared.train.TrainPurchase.{TrainPurchase}
use Rattle.tables.proofs.Rules.{not_broken}
use Rattle.tables.specs.Roster.{same_company}
use Rattle.tables.specs.Train.{same_kind, trains_of}
use Rattle.tables.specs.declared.rolling_stock.Kind.{Kind}
use Rattle.tables.specs.declared.rolling_stock.Kind.TheVariants.{Six, Diesel}
use Rattle.tables.specs.declared.roster.Company.{Company}
use Rattle.tables.proofs.TrainKinds.{kind_is}

-- the first kind that is left is left
first_is_left : (events : List Event) (some : List Kind) (kind : Kind)
    → is_kind (first_left_of events some) kind ≡ true → is_left events kind ≡ true
first_is_left events [] kind named = absurd (cc)
first_is_left events (first ∷ others) kind named =
    elim (is_left events first) as (λ (b : Bool). is_left events first ≡ b
    → is_kind (if b then Some first else first_left_of events others) kind ≡ true → is_left events kind ≡ true) [
      | true ↦ λ left is. subst (λ (k : Kind). is_left events k ≡ true) (kind_is first kind is) left
      | false ↦ λ none is. first_is_left events others kind is
    ]
    refl named

-- of this many that are left fewer are sold
fewer_sold : (number : Option ℕ) (sold n : ℕ) → are_left number sold ≡ true → number ≡ Some n → sold < n
fewer_sold None sold n left is = absurd (cc)
fewer_sold (Some m) sold n left is =
    let same : m ≡ n = cc in
    subst (λ (k : ℕ). sold < k) same (grind (arith, nat_tests, left))

-- a D has no number
no_number : (kind : Kind) (n : ℕ) → same_kind kind Diesel ≡ true → (trains_of kind).number ≡ Some n → ⊥
no_number kind n same is =
    let none : None ≡ Some n = sym (ap (λ (k : Kind). (trains_of k).number) (kind_is kind Diesel same))
    ∙ is in absurd (cc)

-- what is on sale is there
on_sale_there : (events : List Event) (buyer : Company) (from : TrainSeller) (kind : Kind)
    → is_on_sale events from kind ≡ true →
    is_not_sellers events buyer kind from ≡ false → IsThere events from kind
on_sale_there events buyer seller.Bank kind on has = λ n number.
    elim (or_cases (is_kind (first_left_of events numbered_kinds) kind)
    (same_kind kind Diesel && nat_lt 0 (trains_sold events Six)) on) [
      | inl first ↦ fewer_sold (trains_of kind).number (trains_sold events kind) n
          (first_is_left events numbered_kinds kind first) number
      | inr diesel ↦ absurd (no_number kind n (and_parts (same_kind kind Diesel) (nat_lt 0 (trains_sold events Six))
          diesel).0 number)
    ]
on_sale_there events buyer seller.BankPool kind on has = grind (arith, ints, on)
on_sale_there events buyer (seller.Company company) kind on has =
    let held = not-false (has_train events company kind) (or_parts (not (has_train events company kind))
    (same_company buyer company) has).0 in
    grind (arith, ints, held)

-- a train that may be traded in is the company's
traded_is_held : (events : List Event) (company : Company) (kind : Kind) (trade_in : Option Kind) (old : Kind)
    → is_no_trade_in events company kind trade_in ≡ false → trade_in ≡ Some old
    → pos 1 ≤ℤ trains_held events (Some company) old
traded_is_held events company kind None old kept is = absurd (cc)
traded_is_held events company kind (Some one) old kept is =
    let same : one ≡ old = cc in
    let held : Bool = lt_z (pos 0) (trains_held events (Some company) one) in
    let may = and_parts (same_kind kind Diesel) (may_be_traded one && held) (not-false (may_trade events company kind one) kept) in
    let has = (and_parts (may_be_traded one) held may.1).1 in
    subst (λ (k : Kind). pos 1 ≤ℤ trains_held events (Some company) k) same (grind (arith, ints, has))

-- what is not less is as much
pub not_less : (a b : ℤ) → lt_z a b ≡ false → b ≤ℤ a
not_less a b is = grind (arith, ints)

-- a company that sells is another than the buyer
abbrev pub IsAnother : Company → TrainSeller → Type 0
IsAnother buyer seller.Bank = Unit
IsAnother buyer seller.BankPool = Unit
IsAnother buyer (seller.Company company) = same_company buyer company ≡ false

-- so it is where it is the seller
is_another : (events : List Event) (buyer : Company) (from : TrainSeller) (kind : Kind)
    → is_not_sellers events buyer kind from ≡ false → IsAnother buyer from
is_another events buyer seller.Bank kind has = tt
is_another events buyer seller.BankPool kind has = tt
is_another events buyer (seller.Company company) kind has =
    (or_parts (not (has_train events company kind)) (same_company buyer company) has).1

-- a purchase that breaks no rule
pub record MayBuy (game : Game) (company : Company) (purchase : TrainPurchase) : Type 0 where
  pub there : IsThere game.events purchase.from purchase.kind
  pub another : IsAnother company purchase.from
  pub pays : pos (train_purchase_cost purchase) ≤ℤ cash_of game.seats game.events (party_of_company company)
  pub trades : (old : Kind) → purchase.trade_in ≡ Some old → pos 1 ≤ℤ trains_held game.events (Some company) old

pub may_buy : (game : Game) (company : Company) (purchase : TrainPurchase) → train_judgement game company purchase ≡ None
    → MayBuy game company purchase
may_buy game company purchase none =
    let kept = not_broken code_of_train_rule (train_purchase_rules game company purchase) none in
    record {
      there = on_sale_there game.events company purchase.from purchase.kind
          (not-false (is_on_sale game.events purchase.from purchase.kind) (kept rule.NotOnSale)) (kept rule.NotSellers);
      another = is_another game.events company purchase.from purchase.kind (kept rule.NotSellers);
      pays = not_less (cash_of game.seats game.events (party_of_company company)) (pos (train_purchase_cost purchase))
          (kept rule.CashTooSmall);
      trades = λ old is. traded_is_held game.events company purchase.kind purchase.trade_in old
          (kept rule.NoTradeIn) is;
    }

-- a train that is traded in goes from the company
traded_sound : (game : Game) (company : Company) (trade_in : Option Kind)
    → ((old : Kind) → trade_in ≡ Some old → pos 1 ≤ℤ trains_held game.events (Some company) old) → IsSound game
    → IsSound (with_trade game company trade_in)
traded_sound game company None has sound = sound
traded_sound game company (Some kind) has sound = trade_sound game company kind (has kind refl) sound

-- no train leaves the pool where one is traded in
pool_keeps : (company : Company) (old kind : Kind)
    → train_goes place.BankPool kind (train_moved (event.Traded company old)) ≡ false
pool_keeps company old kind = grind arith

-- and the bank sells none
bank_keeps : (company : Company) (old kind : Kind)
    → train_goes place.Bank kind (train_moved (event.Traded company old)) ≡ false
bank_keeps company old kind = grind arith

-- and none leaves another company
seller_keeps : (company other : Company) (old kind : Kind) → same_company company other ≡ false →
    train_goes (place.Company other) kind (train_moved (event.Traded company old)) ≡ false
seller_keeps company other old kind apart =
    elim (same_kind old kind) as (λ (b : Bool). (b && same_company company other) ≡ false) [
      | true ↦ apart
      | false ↦ refl
    ]

-- and the one that is to be bought is still there
there_after_trade : (events : List Event) (company : Company) (old : Kind) (from : TrainSeller) (kind : Kind)
    → IsAnother company from → IsThere events from kind →
    IsThere (events ++ event.Traded company old ∷ []) from kind
there_after_trade events company old seller.Bank kind another there = λ n number.
    let fewer = there n number in
    omega (arith, sold_at_end events (event.Traded company old) kind, ap one_if (bank_keeps company old kind))
there_after_trade events company old seller.BankPool kind another there =
    omega (
      arith,
      ints,
      trains_at_end events (event.Traded company old) place.BankPool kind,
      ap one_if
          (pool_keeps company old kind),
    )
there_after_trade events company old (seller.Company other) kind another there =
    omega (
      arith,
      ints,
      trains_at_end events (event.Traded company old) (place.Company other) kind,
      ap one_if
          (seller_keeps company other old kind another),
    )

pub there_traded : (game : Game) (company : Company) (trade_in : Option Kind) (from : TrainSeller) (kind : Kind)
    → IsAnother company from → IsThere game.events from kind
    → IsThere (with_trade game company trade_in).events from kind
there_traded game company None from kind another there = there
there_traded game company (Some old) from kind another there =
    there_after_trade game.events company old from kind another there

-- and the cash is what it was
cash_traded : (game : Game) (company : Company) (trade_in : Option Kind) (party : Party)
    → cash_of (with_trade game company trade_in).seats (with_trade game company trade_in).events party
    ≡ cash_of game.seats game.events party
cash_traded game company None party = refl
cash_traded game company (Some old) party = cash_of_before game.seats game.events (event.Traded company old) party refl

-- so the list is sound once the train has gone to the company
pub train_sound : (game : Game) (company : Company) (purchase : TrainPurchase)
    → train_judgement game company purchase ≡ None → IsSound game
    → IsSound (with_event (with_trade game company purchase.trade_in)
    (event.Train company purchase.kind purchase.from (train_purchase_cost purchase)))
train_sound game company purchase none sound =
    let may = may_buy game company purchase none in
    let traded = with_trade game company purchase.trade_in in
    let price = train_purchase_cost purchase in
    let enough : pos price ≤ℤ cash_of traded.seats traded.events (party_of_company company) =
    subst (λ cash. pos price ≤ℤ cash) (sym (cash_traded game company purchase.trade_in
    (party_of_company company))) may.pays in
    train_purchase_sound traded company purchase.kind purchase.from price
    (there_traded game company purchase.trade_in purchase.from purchase.kind may.another may.there) enough
    (traded_sound game company purchase.trade_in may.trades sound)
