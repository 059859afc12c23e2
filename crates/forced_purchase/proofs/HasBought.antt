-- A company that is made to buy has a train then: what rusts by its purchase is of another kind,
-- and it has none too many to be discarded.
use Rattle.std.proofs.Common.{◌≡◌, inl, inr, ℕ, zero, suc, ◌≤◌, Bool, true, false, ◌&&◌, if◌then◌else◌}
use Rattle.std.proofs.Common.{Option, Some, None, ℤ, pos, negsuc, ◌≤ℤ◌, ◌-ℤ◌, refl, sym, ap, subst}
use Rattle.std.proofs.Common.{◌∙◌, arith}
use Rattle.std.proofs.lemmas.Bool.Decides.{nat_tests}
use Rattle.std.proofs.lemmas.Int.{ints}
use Rattle.std.specs.Int.Signed.{lt_z}
use Rattle.std.proofs.Math.Bool.{and-false, and-true}
use Rattle.std.proofs.lemmas.Bool.{cases_Bool}
use Rattle.events.specs.Event.{place_of_seller, train_owner_place, train_moved}
use Rattle.events.specs.declared.event.Event.{Event}
use Rattle.events.specs.declared.event.Event.TheVariants as event
use Rattle.events.specs.declared.event.TrainSeller.{TrainSeller}
use Rattle.events.specs.declared.event.TrainSeller.TheVariants as seller
use Rattle.totals.proofs.EventAtEnd.{trains_at_before, trains_at_end}
use Rattle.history.proofs.Rolling.{same_train_place_is}
use Rattle.totals.specs.LookBack.{Game, with_event}
use Rattle.totals.specs.Trains.{TrainsAreHeld, one_if, phase_of, same_train_place, at_least_zero, train_count}
use Rattle.totals.specs.Trains.{trains_at, trains_held}
use Rattle.forced_purchase.proofs.CheapestTrain.{cheapest_plain, limit_low}
use Rattle.purchases.proofs.Rust.{all_go, by_train_owner, has}
use Rattle.purchases.proofs.TrainSteps.{IsPassedOn, of_bop, of_fold, of_iterate, of_kind, of_privates}
use Rattle.purchases.specs.Discard.{next_discard, with_discarded, with_next_discarded}
use Rattle.forced_purchase.specs.Forced.{with_aid}
use Rattle.forced_purchase.specs.Shortfall.{cheapest, lack_of, purchase_without_trade_in}
use Rattle.purchases.specs.Train.{after_train, begins_phase, has_trains, train_bought, train_purchase_cost}
use Rattle.purchases.specs.Phases.{excess_of, rusts_at, with_kind_rusted, with_kind_rusted_at, with_limit_kept}
use Rattle.purchases.specs.Phases.{with_limits_kept, with_one_rusted, with_phase, with_privates_closed, with_rusted}
use Rattle.purchases.specs.Phases.{with_trains_rusted}
use Rattle.forced_purchase.specs.declared.operator.Operator.{Operator}
use Rattle.purchases.specs.declared.train.TrainPurchase.{TrainPurchase}
use Rattle.tables.specs.Roster.{companies, same_company}
use Rattle.tables.specs.Steps.{iterate}
use Rattle.tables.specs.Train.{kinds, limit_of, rusting_of, same_kind}
use Rattle.tables.specs.declared.rolling_stock.Kind.{Kind}
use Rattle.tables.specs.declared.rolling_stock.Kind.TheVariants.{Two, Three, Four, Five, Six, Diesel}
use Rattle.tables.specs.declared.roster.Company.{Company}
use Rattle.tables.proofs.Companies.{company_is, company_itself}
use Rattle.tables.proofs.TrainKinds.{kind_is}

-- what rusts is of another kind than the train by which it does
rusts_another : (kind new : Kind) → rusts_at (rusting_of kind) new ≡ true → same_kind new kind ≡ false
rusts_another Two new rusts = grind (arith, nat_tests, rusts)
rusts_another Three new rusts = grind (arith, nat_tests, rusts)
rusts_another Four new rusts = grind (arith, nat_tests, rusts)
rusts_another Five new rusts = absurd cc
rusts_another Six new rusts = absurd cc
rusts_another Diesel new rusts = absurd cc

-- this many of a count that is not more than 0
few_are_none : (count : ℤ) → count ≤ℤ pos 0 → at_least_zero count ≡ 0
few_are_none (pos n) few = omega (arith, ints, few)
few_are_none (negsuc n) few = refl

module _ (company : Company) (own : Kind) where
  -- the company has one train, of this kind
  abbrev HasOne : Game → Type 0
  HasOne game = (kind : Kind) → trains_held game.events (Some company) kind ≡ pos (one_if (same_kind own kind))

  -- so it does after as well
  abbrev Stays : Game → Game → Type 0
  Stays before after = HasOne before → HasOne after

  on : IsPassedOn Stays
  on = record { same = λ game one. one; both = λ a b c first second one. second (first one) }

  -- after an event that moves no train
  by_other : (game : Game) (its : Event) → train_moved its ≡ None → Stays game (with_event game its)
  by_other game its none one kind = trains_at_before game.events its (train_owner_place (Some company)) kind none
      ∙ one kind

  -- what it has of a kind of which it has none stays none as trains of the kind rust
  none_still : (rusting : Kind) (owner : Option Company) (game : Game) → has rusting (Some company) game ≡ pos 0 →
      has rusting (Some company) (with_trains_rusted owner rusting game) ≡ pos 0
  none_still rusting owner game none =
      by_train_owner (λ count. count ≡ pos 0) rusting owner (Some company) game
      (λ same.
      let here : has rusting owner game ≡ pos 0 = ap (λ place. trains_at game.events place rusting)
      (same_train_place_is (train_owner_place owner) (train_owner_place (Some company)) same) ∙ none in
      all_go rusting owner game (subst (λ (count : ℤ). pos 0 ≤ℤ count) (sym here) (omega (arith, ints))))
      none

  -- and of another kind it has as many
  other_kind : (rusting kind : Kind) (owner : Option Company) (n : ℕ) (game : Game) → same_kind rusting kind ≡ false →
      has kind (Some company) (iterate (with_one_rusted owner rusting) n game) ≡ has kind (Some company) game
  other_kind rusting kind owner zero game apart = refl
  other_kind rusting kind owner (suc n) game apart =
      let now : Game = iterate (with_one_rusted owner rusting) n game in
      let its : Event = event.Rusted owner rusting in
      let place = train_owner_place (Some company) in
      let none : (place_test : Bool) → one_if (same_kind rusting kind && place_test) ≡ 0 =
      λ place_test. ap (λ (b : Bool). one_if (b && place_test)) apart in
      omega (
        arith,
        ints,
        trains_at_end now.events its place kind,
        none
            (same_train_place (train_owner_place owner) place),
        none false,
      )
      ∙ other_kind rusting kind owner n game apart

  -- so it is as trains of another kind rust
  by_rust : (rusting : Kind) → same_kind own rusting ≡ false → (owner : Option Company) (game : Game)
      → Stays game (with_trains_rusted owner rusting game)
  by_rust rusting another owner game one kind =
      elim (cases_Bool (same_kind rusting kind)) [
        | inl same ↦
            let is : rusting ≡ kind = kind_is rusting kind same in
            let zero_of : (its : Kind) → same_kind own its ≡ false → has its (Some company) game ≡ pos 0 =
            λ its apart. one its ∙ ap (λ (b : Bool). pos (one_if b)) apart in
            subst (λ (its : Kind). has its (Some company) (with_trains_rusted owner rusting game)
            ≡ pos (one_if (same_kind own its))) is
            (none_still rusting owner game (zero_of rusting another) ∙ ap (λ (b : Bool). pos (one_if b)) (sym another))
        | inr apart ↦ other_kind rusting kind owner (at_least_zero (has rusting owner game)) game apart ∙ one kind
      ]

  by_rusts : (game : Game) → Stays game (with_rusted own game)
  by_rusts game =
      of_fold Stays (with_kind_rusted_at own) on
      (λ now kind.
      elim (rusts_at (rusting_of kind) own) as (λ (b : Bool). rusts_at (rusting_of kind) own ≡ b
      → Stays now (if b then with_kind_rusted now kind else now)) [
        | true ↦ λ rusts. of_kind Stays on kind (by_rust kind (rusts_another kind own rusts)) now
        | false ↦ λ keeps. on.same now
      ]
      refl)
      game kinds

  -- it has one train in all
  one_in_all : (game : Game) → HasOne game → train_count game.events (Some company) ≡ pos 1
  one_in_all game one =
      elim own as (λ (its : Kind). ((kind : Kind) → trains_held game.events (Some company) kind
      ≡ pos (one_if (same_kind its kind))) → train_count game.events (Some company) ≡ pos 1) [
        | Two ↦ λ all. omega (arith, ints, all Two, all Three, all Four, all Five, all Six, all Diesel)
        | Three ↦ λ all. omega (arith, ints, all Two, all Three, all Four, all Five, all Six, all Diesel)
        | Four ↦ λ all. omega (arith, ints, all Two, all Three, all Four, all Five, all Six, all Diesel)
        | Five ↦ λ all. omega (arith, ints, all Two, all Three, all Four, all Five, all Six, all Diesel)
        | Six ↦ λ all. omega (arith, ints, all Two, all Three, all Four, all Five, all Six, all Diesel)
        | Diesel ↦ λ all. omega (arith, ints, all Two, all Three, all Four, all Five, all Six, all Diesel)
      ]
      one

  -- which no limit excludes
  none_over : (size : ℤ) (limit : ℕ) → size ≡ pos 1 → 1 ≤ limit → at_least_zero (size -ℤ pos limit) ≡ 0
  none_over size limit one low = few_are_none (size -ℤ pos limit) (omega (arith, ints, one, low))

  -- a discard of another company
  by_discard : (game : Game) (other : Company) (kind : Kind) → same_company other company ≡ false
      → Stays game (with_event game (event.Discarded other kind))
  by_discard game other discarded apart one kind =
      let place = train_owner_place (Some company) in
      let none : one_if (same_kind discarded kind && same_company other company) ≡ 0 =
      ap (λ (b : Bool). one_if (same_kind discarded kind && b)) apart
      ∙ ap one_if (and-false (same_kind discarded kind)) in
      let comes : one_if (same_kind discarded kind && false) ≡ 0 = ap one_if (and-false (same_kind discarded kind)) in
      omega (arith, ints, trains_at_end game.events (event.Discarded other discarded) place kind, none, comes)
      ∙ one kind

  by_limit : (game : Game) (other : Company) → Stays game (with_limit_kept game other)
  by_limit game other one =
      elim (cases_Bool (same_company other company)) [
        | inl same ↦
            let is : other ≡ company = company_is other company same in
            let none : excess_of game other ≡ 0 = none_over (train_count game.events (Some other))
            (limit_of (phase_of game.events))
            (ap (λ (its : Company). train_count game.events (Some its)) is ∙ one_in_all game one)
            (limit_low (phase_of game.events)) in
            subst (λ (n : ℕ). HasOne (iterate (with_next_discarded other) n game)) (sym none) one
        | inr apart ↦
            of_iterate Stays (with_next_discarded other) on
            (λ now. elim (next_discard now.events other) as
            (λ (found : Option Kind). Stays now (with_discarded now other found)) [
              | None ↦ on.same now
              | Some kind ↦ by_discard now other kind apart
            ])
            (excess_of game other) game one
      ]

  -- so it is after all consequences of a phase
  by_phase : (game : Game) → Stays game (with_phase game own)
  by_phase game =
      let begun : Game = with_event game (event.Phase own) in
      let rusted : Game = with_rusted own begun in
      let closed : Game = with_privates_closed own rusted in
      on.both game begun (with_limits_kept closed) (by_other game (event.Phase own) refl)
      (on.both begun rusted (with_limits_kept closed) (by_rusts begun)
      (on.both rusted closed (with_limits_kept closed)
      (of_privates Stays on (λ now private. by_other now (event.Closed private) refl) own rusted)
      (of_fold Stays with_limit_kept on by_limit closed companies)))

  -- the train goes to a company that has none
  by_train : (game : Game) (from : TrainSeller) (price : ℕ)
      → ((kind : Kind) → trains_held game.events (Some company) kind ≡ pos 0) →
      same_train_place (place_of_seller from) (train_owner_place (Some company)) ≡ false
      → HasOne (with_event game (event.Train company own from price))
  by_train game from price none apart kind =
      let place = train_owner_place (Some company) in
      let comes : one_if (same_kind own kind && same_company company company) ≡ one_if (same_kind own kind) =
      ap (λ (b : Bool). one_if (same_kind own kind && b)) (company_itself company)
      ∙ ap one_if (and-true (same_kind own kind)) in
      let goes : one_if (same_kind own kind && same_train_place (place_of_seller from) place) ≡ 0 =
      ap (λ (b : Bool). one_if (same_kind own kind && b)) apart ∙ ap one_if (and-false (same_kind own kind)) in
      omega (
        arith,
        ints,
        trains_at_end game.events (event.Train company own from price) place kind,
        comes,
        goes,
        none
            kind,
      )

  -- so it is after the whole purchase
  by_purchase : (game : Game) (from : TrainSeller)
      → ((kind : Kind) → trains_held game.events (Some company) kind ≡ pos 0) →
      same_train_place (place_of_seller from) (train_owner_place (Some company)) ≡ false
      → HasOne (after_train game company (purchase_without_trade_in own from))
  by_purchase game from none apart =
      let came : Game = with_event game (event.Train company own from (train_purchase_cost (purchase_without_trade_in own from))) in
      let all : Game = train_bought game company (purchase_without_trade_in own from) in
      let first : HasOne all = of_bop Stays on (λ now private. by_other now (event.Closed private) refl) came company
      (by_train game from (train_purchase_cost (purchase_without_trade_in own from)) none apart) in
      elim (begins_phase game.events from own) as (λ (b : Bool). HasOne (if b then with_phase all own else all)) [
        | true ↦ by_phase all first
        | false ↦ first
      ]

-- a count that is not more than 0
not_over : (size : ℤ) → lt_z (pos 0) size ≡ false → size ≤ℤ pos 0
not_over size none = grind (arith, ints, none)

-- a company that has no trains has none of any kind
none_of_any : (game : Game) (company : Company) → TrainsAreHeld game.events → has_trains game.events company ≡ false
    → (kind : Kind) → trains_held game.events (Some company) kind ≡ pos 0
none_of_any game company held none kind =
    let owner : Option Company = Some company in
    let few : train_count game.events owner ≤ℤ pos 0 = not_over (train_count game.events owner) none in
    let two = held.held owner Two in
    let three = held.held owner Three in
    let four = held.held owner Four in
    let five = held.held owner Five in
    let six = held.held owner Six in
    let diesel = held.held owner Diesel in
    elim kind as (λ (its : Kind). trains_held game.events owner its ≡ pos 0) [
      | Two ↦ omega (arith, ints, few, two, three, four, five, six, diesel)
      | Three ↦ omega (arith, ints, few, two, three, four, five, six, diesel)
      | Four ↦ omega (arith, ints, few, two, three, four, five, six, diesel)
      | Five ↦ omega (arith, ints, few, two, three, four, five, six, diesel)
      | Six ↦ omega (arith, ints, few, two, three, four, five, six, diesel)
      | Diesel ↦ omega (arith, ints, few, two, three, four, five, six, diesel)
    ]

-- what the president pays moves no train
none_with_aid : (by : Operator) (game : Game) (kind : Kind) → trains_held game.events (Some by.company) kind ≡ pos 0
    → trains_held (with_aid by game).events (Some by.company) kind ≡ pos 0
unfolding with_aid
none_with_aid by game kind none =
    let its : Event = event.Aid by.president by.company (at_least_zero (lack_of game by.company)) in
    elim (lt_z (pos 0) (lack_of game by.company)) as
    (λ (b : Bool). trains_held (if b then with_event game its else game).events (Some by.company) kind ≡ pos 0) [
      | true ↦ trains_at_before game.events its (train_owner_place (Some by.company)) kind refl ∙ none
      | false ↦ none
    ]

-- so a company that is made to buy has a train
pub has_bought : (by : Operator) (game : Game) → TrainsAreHeld game.events → has_trains game.events by.company ≡ false →
    has_trains (after_train (with_aid by game) by.company (cheapest game.events)).events by.company ≡ true
has_bought by game held none =
    let company : Company = by.company in
    let aided : Game = with_aid by game in
    let nothing : (kind : Kind) → trains_held aided.events (Some company) kind ≡ pos 0 =
    λ kind. none_with_aid by game kind (none_of_any game company held none kind) in
    let Has : TrainPurchase → Type 0 = λ purchase. has_trains (after_train aided company purchase).events company ≡ true in
    let from_there : (kind : Kind) (from : TrainSeller)
    → same_train_place (place_of_seller from) (train_owner_place (Some company)) ≡ false → Has (purchase_without_trade_in kind from) =
    λ kind from apart.
    ap (lt_z (pos 0)) (one_in_all company kind (after_train aided company (purchase_without_trade_in kind from))
    (by_purchase company kind aided from nothing apart))
    in
    let its = cheapest_plain game.events in
    elim its.1 [
      | inl is ↦ subst Has (sym is) (from_there its.0 seller.Bank refl)
      | inr is ↦ subst Has (sym is) (from_there its.0 seller.BankPool refl)
    ]
