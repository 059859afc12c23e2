-- Once the trains of a kind have rusted none is in play.
use Rattle.std.proofs.Common.{◌≡◌, ℕ, zero, suc, inl, inr, Bool, true, false, ◌&&◌, List, [], ◌∷◌, Option, Some, None}
use Rattle.std.proofs.Common.{ℤ, pos, ◌≤ℤ◌, ◌-ℤ◌, refl, sym, ap, subst, ◌∙◌, arith}
use Rattle.std.proofs.lemmas.Int.{ints}
use Rattle.std.specs.List.{fold}
use Rattle.std.proofs.lemmas.Bool.{cases_Bool}
use Rattle.events.specs.Event.{train_owner_place, train_moved}
use Rattle.events.specs.declared.event.Event.TheVariants as event
use Rattle.totals.proofs.EventAtEnd.{trains_at_end}
use Rattle.history.proofs.Rolling.{same_train_place_is}
use Rattle.totals.specs.LookBack.{Game}
use Rattle.totals.specs.Trains.{one_if, same_train_place, at_least_zero, train_comes, train_goes, trains_at}
use Rattle.totals.specs.Trains.{trains_held, trains_in_play}
use Rattle.totals.proofs.Choices.{at_least_zero_is}
use Rattle.purchases.proofs.PhaseLemmas.{one_less}
use Rattle.purchases.specs.Phases.{with_company_rusted, with_kind_rusted, with_one_rusted, with_trains_rusted}
use Rattle.tables.specs.Roster.{companies}
use Rattle.tables.specs.Steps.{iterate}
use Rattle.tables.specs.Train.{same_kind}
use Rattle.tables.specs.declared.rolling_stock.Kind.{Kind}
use Rattle.tables.specs.declared.roster.Company.{Company}

-- what a stable has of a kind
abbrev pub has : Kind → Option Company → Game → ℤ
has kind owner game = trains_held game.events owner kind

-- no train leaves another stable than that of the one that rusts
none_goes : (kind : Kind) (owner other : Option Company)
    → same_train_place (train_owner_place owner) (train_owner_place other) ≡ false
    → train_goes (train_owner_place other) kind (train_moved (event.Rusted owner kind)) ≡ false
none_goes kind owner other apart = ap (λ (b : Bool). same_kind kind kind && b) apart ∙ grind arith

-- and none goes to one
none_comes : (kind : Kind) (owner other : Option Company)
    → train_comes (train_owner_place other) kind (train_moved (event.Rusted owner kind)) ≡ false
none_comes kind owner None = grind arith
none_comes kind owner (Some company) = grind arith

-- a train of another stable that rusts
other_keeps : (kind : Kind) (owner other : Option Company) (game : Game)
    → same_train_place (train_owner_place owner) (train_owner_place other) ≡ false
    → has kind other (with_one_rusted owner kind game) ≡ has kind other game
other_keeps kind owner other game apart =
    omega (
      arith,
      ints,
      trains_at_end game.events (event.Rusted owner kind) (train_owner_place other) kind,
      ap one_if
          (none_goes kind owner other apart),
      ap one_if (none_comes kind owner other),
    )

-- by this many that rust
others_keep : (kind : Kind) (owner other : Option Company) (n : ℕ) (game : Game)
    → same_train_place (train_owner_place owner) (train_owner_place other) ≡ false
    → has kind other (iterate (with_one_rusted owner kind) n game) ≡ has kind other game
others_keep kind owner other zero game apart = refl
others_keep kind owner other (suc n) game apart =
    other_keeps kind owner other (iterate (with_one_rusted owner kind) n game) apart
    ∙ others_keep kind owner other n game apart

-- this many of a stable rust
pub so_many_less : (kind : Kind) (owner : Option Company) (n : ℕ) (game : Game)
    → has kind owner (iterate (with_one_rusted owner kind) n game) ≡ has kind owner game -ℤ pos n
so_many_less kind owner zero game = omega (arith, ints)
so_many_less kind owner (suc n) game =
    omega (
      arith,
      ints,
      one_less (iterate (with_one_rusted owner kind) n game).events owner kind,
      so_many_less kind
          owner n game,
    )

-- all of a stable rust
pub all_go : (kind : Kind) (owner : Option Company) (game : Game) → pos 0 ≤ℤ has kind owner game
    → has kind owner (with_trains_rusted owner kind game) ≡ pos 0
all_go kind owner game low =
    omega (
      arith,
      ints,
      so_many_less kind owner (at_least_zero (has kind owner game)) game,
      at_least_zero_is
          (has kind owner game) low,
    )

-- one stable or another
pub by_train_owner : (P : ℤ → Type 0) (kind : Kind) (owner other : Option Company) (game : Game)
    → (same_train_place (train_owner_place owner) (train_owner_place other) ≡ true
    → P (has kind owner (with_trains_rusted owner kind game))) → P (has kind other game)
    → P (has kind other (with_trains_rusted owner kind game))
by_train_owner P kind owner other game here kept =
    elim (cases_Bool (same_train_place (train_owner_place owner) (train_owner_place other))) [
      | inl same ↦
          subst (λ place. P (trains_at (with_trains_rusted owner kind game).events place kind))
          (same_train_place_is (train_owner_place owner) (train_owner_place other) same) (here same)
      | inr apart ↦ subst P (sym (others_keep kind owner other (at_least_zero (has kind owner game)) game apart)) kept
    ]

-- nobody has a negative number
abbrev NoneOwed : Kind → Game → Type 0
NoneOwed kind game = (owner : Option Company) → pos 0 ≤ℤ has kind owner game

still_none_owed : (kind : Kind) (owner : Option Company) (game : Game) → NoneOwed kind game
    → NoneOwed kind (with_trains_rusted owner kind game)
still_none_owed kind owner game low other =
    by_train_owner (λ count. pos 0 ≤ℤ count) kind owner other game
    (λ same. subst (λ count. pos 0 ≤ℤ count) (sym (all_go kind owner game (low owner))) (omega (arith, ints)))
    (low other)

-- a stable that has none has none still
still_none : (kind : Kind) (owner other : Option Company) (game : Game) → NoneOwed kind game
    → has kind other game ≡ pos 0 → has kind other (with_trains_rusted owner kind game) ≡ pos 0
still_none kind owner other game low none =
    by_train_owner (λ count. count ≡ pos 0) kind owner other game (λ same. all_go kind owner game (low owner)) none

-- so it is after each of some companies
fold_owes_none : (kind : Kind) (some : List Company) (game : Game) → NoneOwed kind game
    → NoneOwed kind (fold (with_company_rusted kind) game some)
fold_owes_none kind [] game low = low
fold_owes_none kind (company ∷ others) game low =
    fold_owes_none kind others (with_company_rusted kind game company) (still_none_owed kind (Some company) game low)

fold_keeps_none : (kind : Kind) (some : List Company) (other : Option Company) (game : Game) → NoneOwed kind game
    → has kind other game ≡ pos 0 → has kind other (fold (with_company_rusted kind) game some) ≡ pos 0
fold_keeps_none kind [] other game low none = none
fold_keeps_none kind (company ∷ others) other game low none =
    fold_keeps_none kind others other (with_company_rusted kind game company)
    (still_none_owed kind (Some company) game low) (still_none kind (Some company) other game low none)

-- none of these companies has any
abbrev HaveNone : Kind → List Company → Game → Type 0
HaveNone kind [] game = Unit {0}
HaveNone kind (company ∷ others) game = (has kind (Some company) game ≡ pos 0) × HaveNone kind others game

fold_leaves_none : (kind : Kind) (some : List Company) (game : Game) → NoneOwed kind game
    → HaveNone kind some (fold (with_company_rusted kind) game some)
fold_leaves_none kind [] game low = tt
fold_leaves_none kind (company ∷ others) game low =
    let next = with_company_rusted kind game company in
    let low_next = still_none_owed kind (Some company) game low in (
      fold_keeps_none kind others (Some company) next low_next (all_go kind (Some company) game (low (Some company))),
      fold_leaves_none kind others next low_next,
    )

-- and none still once those of the pool rust
pool_leaves_none : (kind : Kind) (some : List Company) (game : Game) → NoneOwed kind game → HaveNone kind some game
    → HaveNone kind some (with_trains_rusted None kind game)
pool_leaves_none kind [] game low none = tt
pool_leaves_none kind (company ∷ others) game low none =
    (still_none kind None (Some company) game low none.0, pool_leaves_none kind others game low none.1)

-- none is in play
pub none_in_play : (kind : Kind) (game : Game) → NoneOwed kind game
    → trains_in_play (with_kind_rusted game kind).events kind ≡ pos 0
none_in_play kind game low =
    let there = fold (with_company_rusted kind) game companies in
    let low_there = fold_owes_none kind companies game low in
    let none = pool_leaves_none kind companies there low_there (fold_leaves_none kind companies game low) in
    omega (
      arith,
      ints,
      all_go kind None there (low_there None),
      none.0,
      none.1.0,
      none.1.1.0,
      none.1.1.1.0,
      none.1.1.1.1.0,
      none.1.1.1.1.1.0,
      none.1.1.1.1.1.1.0,
      none.1.1.1.1.1.1.1.0,
    )
