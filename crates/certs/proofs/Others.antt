-- The other seats of a table are others.
use Rattle.std.proofs.Common.{◌≡◌, ℕ, zero, suc, ◌+◌, ◌-◌, ◌≤◌, ◌<◌, ◌==◌, ◌⊎◌, inl, inr, Bool, true, false, ◌||◌}
use Rattle.std.proofs.Common.{nat_lt, if◌then◌else◌, min, List, [], ◌∷◌, ℤ, ◌≤ℤ◌, refl, arith}
use Rattle.std.proofs.lemmas.Bool.Decides.{nat_tests}
use Rattle.std.proofs.lemmas.Int.{ints}
use Rattle.std.specs.Int.Signed.{le_z, lt_z}
use Rattle.certs.proofs.Presidents.{most_le}
use Rattle.certs.specs.President.{better_of, others_from, with_most}
use Rattle.certs.specs.Sale.{one_has}
use Rattle.events.specs.declared.event.Event.{Event}
use Rattle.events.specs.declared.event.Shareholder.TheVariants.{Seat as OfSeat}
use Rattle.totals.specs.Shares.{shares_of}
use Rattle.tables.specs.Seat.{left_of, seat_at, seats_from}
use Rattle.tables.specs.declared.roster.Company.{Company}
use Rattle.tables.specs.declared.seat.Seat.{Seat}

-- none of these seats has this number
abbrev AreOthers : ℕ → List Seat → Type 0
AreOthers seat [] = Unit {0}
AreOthers seat (other ∷ others) = ((seat == other.0) ≡ false) × AreOthers seat others

-- this many seats from one on reach the end of the table and not round to a seat, or stay before it
abbrev StayClear : ℕ → ℕ → ℕ → ℕ → Type 0
StayClear seats seat count first =
    ((seat < first) × (first < seats) × ((first - seat) + count ≤ seats)) ⊎ (first + count ≤ seat)

-- the next seat stays clear as well
next_clear : (seats seat count first : ℕ) → seats ≤ 6 → seat < seats → StayClear seats seat (suc count) first
    → StayClear seats seat count (left_of seats (seat_at first)).0
next_clear seats seat count first few within clear =
    elim (nat_lt (first + 1) (min seats 256)) as (λ (b : Bool). nat_lt (first + 1) (min seats 256) ≡ b
    → StayClear seats seat count (if b then seat_at (first + 1) else seat_at 0).0) [
      | true ↦ λ is.
          elim clear [
            | inl after ↦ let a = after.0 in let b = after.1 in let c =
                after.2 in inl (
                  grind (arith, nat_tests, a, b, c, is),
                  grind (arith, nat_tests, a, b, c, is),
                  grind
                      (arith, nat_tests, a, b, c, is),
                )
            | inr before ↦ inr (grind (arith, nat_tests, before))
          ]
      | false ↦ λ is.
          elim clear [
            | inl after ↦ let a = after.0 in let b = after.1 in let c =
                after.2 in inr (grind (arith, nat_tests, a, b, c, is))
            | inr before ↦ absurd (grind (arith, nat_tests, before, is))
          ]
    ]
    refl

-- seats that stay clear of a seat are others
clear_others : (seats seat count first : ℕ) → seats ≤ 6 → seat < seats → StayClear seats seat count first
    → AreOthers seat (seats_from seats count (seat_at first))
clear_others seats seat zero first few within clear = tt
clear_others seats seat (suc count) first few within clear =
    let apart : (seat == first) ≡ false =
    elim clear [
      | inl after ↦ let a = after.0 in grind (arith, nat_tests, a)
      | inr before ↦ grind (arith, nat_tests, before)
    ]
    in (
      apart,
      clear_others seats seat count (left_of seats (seat_at first)).0 few within
          (next_clear seats seat count first few within clear),
    )

-- the seat at the left begins with what is clear
first_clear : (seats seat : ℕ) → seats ≤ 6 → seat < seats
    → StayClear seats seat (seats - 1) (left_of seats (seat_at seat)).0
first_clear seats seat few within =
    elim (nat_lt (seat + 1) (min seats 256)) as (λ (b : Bool). nat_lt (seat + 1) (min seats 256) ≡ b
    → StayClear seats seat (seats - 1) (if b then seat_at (seat + 1) else seat_at 0).0) [
      | true ↦ λ is. inl (omega arith, grind (arith, nat_tests, is), grind (arith, nat_tests, is))
      | false ↦ λ is. inr (grind (arith, nat_tests, is))
    ]
    refl

-- the other seats of a table are others
are_others : (seats : ℕ) (seat : Seat) → seats ≤ 6 → seat.0 < seats → AreOthers seat.0 (others_from seats seat)
are_others seats seat few within = clear_others seats seat.0 (seats - 1) (left_of seats seat).0 few within
    (first_clear seats seat.0 few within)

-- the better of two seats has no fewer than the second
most_le_second : (shares : Seat → ℤ) (best seat : Seat) → shares seat ≤ℤ shares (better_of shares best seat)
most_le_second shares best seat =
    elim (lt_z (shares best) (shares seat)) as (λ (b : Bool). lt_z (shares best) (shares seat) ≡ b
    → shares seat ≤ℤ shares (if b then seat else best)) [
      | true ↦ λ more. omega (arith, ints)
      | false ↦ λ no_more. grind (arith, ints)
    ]
    refl

-- the first with most has no fewer than any
most_over : (events : List Event) (company : Company) (least : ℤ) (shares : Seat → ℤ) (seat : ℕ) (best : Seat)
    (others : List Seat) → ((other : Seat) → (seat == other.0) ≡ false
    → shares other ≡ shares_of events company (OfSeat other)) → AreOthers seat others
    → one_has events company least others ≡ true → least ≤ℤ shares (with_most shares best others)
most_over events company least shares seat best [] same apart has = absurd (cc)
most_over events company least shares seat best (other ∷ others) same apart has =
    let now : shares other ≡ shares_of events company (OfSeat other) = same other apart.0 in
    let better : shares other ≤ℤ shares (better_of shares best other) = most_le_second shares best other in
    let rest = most_le shares (better_of shares best other) others in
    elim (le_z least (shares_of events company (OfSeat other))) as
    (λ (b : Bool). le_z least (shares_of events company (OfSeat other)) ≡ b
    → (b || one_has events company least others) ≡ true
    → least ≤ℤ shares (with_most shares (better_of shares best other) others)) [
      | true ↦ λ enough one. grind (arith, ints, now, better, rest)
      | false ↦ λ fewer one. most_over events company least shares seat (better_of shares best other) others same
          apart.1 one
    ]
    refl has

-- where another seat has this many shares, the first with most has as many
pub another_leads : (seats : ℕ) (events : List Event) (company : Company) (least : ℤ) (shares : Seat → ℤ)
    (seat : Seat) → seats ≤ 6 → seat.0 < seats → ((other : Seat) → (seat.0 == other.0) ≡ false
    → shares other ≡ shares_of events company (OfSeat other))
    → one_has events company least (others_from seats seat) ≡ true
    → least ≤ℤ shares (with_most shares seat (others_from seats seat))
another_leads seats events company least shares seat few within same has =
    most_over events company least shares seat.0 seat (others_from seats seat) same (are_others seats seat few within)
    has
