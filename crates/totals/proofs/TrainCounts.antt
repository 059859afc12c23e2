-- How many trains a company has: all that came to it, minus all that went.
use Rattle.std.proofs.Common.{◌≡◌, ℕ, zero, suc, ◌+◌, ◌<◌, ◌≤◌, ◌^◌, Bool, ◌&&◌, List, [], ◌∷◌, length, Option, Some}
use Rattle.std.proofs.Common.{None, ℤ, pos, negsuc, neg_ℤ, unsigned_abs, FitsSigned, ◌≤ℤ◌, ◌-ℤ◌, ◌+ℤ◌, refl, sym, subst}
use Rattle.std.proofs.Common.{◌∙◌, arith}
use Rattle.std.proofs.lemmas.Int.{fits_signed_from_abs, ints, to_z-of_z}
use Rattle.std.proofs.lemmas.List.Sums.{count_by-le-length, sum_by-cons}
use mir.Syntax.{w64, w128}
use mir.Val.{of_z, to_z}
use Rattle.events.specs.Event.{train_owner_place, train_moved}
use Rattle.events.specs.declared.event.Event.{Event}
use Rattle.events.specs.declared.event.TrainMove.{TrainMove}
use Rattle.totals.proofs.AllTrains.{trains_in_front}
use Rattle.totals.proofs.BalanceTables.{balance_kept}
use Rattle.totals.specs.Totals.{IsBalance}
use Rattle.totals.specs.LookBack.{balance}
use Rattle.totals.specs.Trains.{any_comes, any_goes, count_of, one_if, train_count, train_comes, train_goes}
use Rattle.tables.specs.Train.{kinds, same_kind}
use Rattle.tables.specs.declared.rolling_stock.Kind.{Kind}
use Rattle.tables.specs.declared.rolling_stock.Kind.TheVariants.{Two, Three, Four, Five, Six, Diesel}
use Rattle.tables.specs.declared.roster.Company.{Company}

-- a train is of one of these kinds
abbrev of_kinds : Kind → Bool → List Kind → ℕ
of_kinds of here [] = 0
of_kinds of here (kind ∷ others) = one_if (same_kind of kind && here) + of_kinds of here others

of_one : (of : Kind) (here : Bool) → of_kinds of here kinds ≡ one_if here
of_one Two here = omega arith
of_one Three here = omega arith
of_one Four here = omega arith
of_one Five here = omega arith
of_one Six here = omega arith
of_one Diesel here = omega arith

-- so a train that comes is one of one kind
abbrev come_by_kind : Option Company → Option TrainMove → List Kind → ℕ
come_by_kind owner move [] = 0
come_by_kind owner move (kind ∷ others) = one_if (train_comes (train_owner_place owner) kind move)
    + come_by_kind owner move others

come_once : (owner : Option Company) (move : Option TrainMove)
    → come_by_kind owner move kinds ≡ one_if (any_comes owner move)
come_once owner None = refl
come_once owner (Some move) = of_one move.kind (any_comes owner (Some move))

-- and so is one that goes
abbrev go_by_kind : Option Company → Option TrainMove → List Kind → ℕ
go_by_kind owner move [] = 0
go_by_kind owner move (kind ∷ others) = one_if (train_goes (train_owner_place owner) kind move)
    + go_by_kind owner move others

go_once : (owner : Option Company) (move : Option TrainMove)
    → go_by_kind owner move kinds ≡ one_if (any_goes owner move)
go_once owner None = refl
go_once owner (Some move) = of_one move.kind (any_goes owner (Some move))

-- how many there are with an event before them
size_in_front : (event : Event) (events : List Event) (owner : Option Company)
    → train_count (event ∷ events) owner ≡ (train_count events owner +ℤ pos
    (one_if (any_comes owner (train_moved event)))) -ℤ pos (one_if (any_goes owner (train_moved event)))
size_in_front event events owner =
    omega (
      arith,
      ints,
      trains_in_front event events (train_owner_place owner) Two,
      trains_in_front event events (train_owner_place owner) Three,
      trains_in_front event events (train_owner_place owner) Four,
      trains_in_front event events (train_owner_place owner) Five,
      trains_in_front event events (train_owner_place owner) Six,
      trains_in_front event events (train_owner_place owner) Diesel,
      come_once owner (train_moved event),
      go_once owner (train_moved event),
    )

-- how many came minus how many went, with an event before them
balance_in_front : (event : Event) (events : List Event) (owner : Option Company)
    → balance 0 (λ e. one_if (any_comes owner (train_moved e))) (λ e. one_if (any_goes owner (train_moved e)))
    (event ∷ events) ≡ (balance 0 (λ e. one_if (any_comes owner (train_moved e)))
    (λ e. one_if (any_goes owner (train_moved e))) events +ℤ pos (one_if (any_comes owner (train_moved event)))) -ℤ
    pos (one_if (any_goes owner (train_moved event)))
balance_in_front event events owner =
    omega (
      arith,
      ints,
      sum_by-cons (λ e. one_if (any_comes owner (train_moved e))) event events,
      sum_by-cons
          (λ e. one_if (any_goes owner (train_moved e))) event events,
    )

-- both are the same
pub size_is : (events : List Event) (owner : Option Company)
    → balance 0 (λ e. one_if (any_comes owner (train_moved e))) (λ e. one_if (any_goes owner (train_moved e))) events
    ≡ train_count events owner
size_is [] owner = refl
size_is (event ∷ events) owner =
    omega (arith, ints, balance_in_front event events owner, size_in_front event events owner, size_is events owner)

-- as many as were sold
pub size_of_debt : (sold : ℕ) → unsigned_abs (neg_ℤ (pos sold)) ≡ sold
size_of_debt zero = refl
size_of_debt (suc sold) = refl

-- a number between two bounds
abs_low : (n : ℤ) (bound : ℕ) → neg_ℤ (pos bound) ≤ℤ n → n ≤ℤ pos bound → unsigned_abs n ≤ bound
abs_low (pos n) bound under over = omega (arith, ints, over)
abs_low (negsuc n) bound under over = omega (arith, ints, under)

-- a count of trains is no greater than the number of events
pub count_fits : (comes goes : Event → Bool) (events : List Event) → length events < 2 ^ 63
    → FitsSigned w64 (count_of comes goes events)
count_fits comes goes events short =
    let came = count_by-le-length comes events in
    let went = count_by-le-length goes events in
    let low = abs_low (count_of comes goes events) (length events) (omega (arith, ints, came, went))
    (omega (arith, ints, came, went)) in
    fits_signed_from_abs w64 (count_of comes goes events) (omega (arith, low, short))

-- the balance of a table is the number that keeps it
count_safe :
    (comes goes : Event → Bool) (events : List Event) (total : ℤ) → length events < 2 ^ 63 →
    IsBalance (λ e. one_if (comes e)) (λ e. one_if (goes e)) events total → to_z w128 (of_z w128 total) ≡ total
count_safe comes goes events total short kept =
    balance_kept total (record {
      not_under = omega (arith, ints, short, kept.not_under);
      not_over = omega (arith, ints, short, kept.not_over);
    })

-- so it fits a smaller number
pub train_count_fits :
    (comes goes : Event → Bool) (events : List Event) (total : ℤ) → length events < 2 ^ 63 →
    IsBalance (λ e. one_if (comes e)) (λ e. one_if (goes e)) events total → FitsSigned w64 (to_z w128 (of_z w128 total))
train_count_fits comes goes events total short kept =
    subst (FitsSigned w64) (sym (count_safe comes goes events total short kept ∙ kept.is))
    (count_fits comes goes events short)

-- which is the count
pub train_count_kept :
    (comes goes : Event → Bool) (events : List Event) (total : ℤ) → length events < 2 ^ 63 →
    IsBalance (λ e. one_if (comes e)) (λ e. one_if (goes e)) events total
    → to_z w64 (of_z w64 (to_z w128 (of_z w128 total))) ≡ count_of comes goes events
train_count_kept comes goes events total short kept =
    to_z-of_z w64 (to_z w128 (of_z w128 total)) (train_count_fits comes goes events total short kept)
    ∙ count_safe comes goes events total short kept ∙ kept.is
