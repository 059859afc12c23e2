-- The first seat with most.
use Rattle.std.proofs.Common.{◌≡◌, ℕ, suc, ◌+◌, ◌-◌, ◌<◌, Bool, true, false, if◌then◌else◌, List, [], ◌∷◌, ℤ, ◌≤ℤ◌}
use Rattle.std.proofs.Common.{refl, ap, ◌∙◌, inl, inr, arith}
use Rattle.std.proofs.lemmas.Int.{ints}
use lib.Signed.{lt_z}
use Rattle.certs.specs.President.{IsFirstWithMost, better_of, with_most}
use Rattle.tables.specs.Seat.{left_of, seats_from}
use Rattle.tables.specs.declared.seat.Seat.{Seat}

-- the first with most has no fewer than the one with which it is compared
pub most_le : (shares : Seat → ℤ) (best : Seat) (others : List Seat)
    → shares best ≤ℤ shares (with_most shares best others)
most_le shares best [] = omega (arith, ints)
most_le shares best (seat ∷ others) =
    elim (lt_z (shares best) (shares seat)) as (λ (b : Bool). lt_z (shares best) (shares seat) ≡ b
    → shares best ≤ℤ shares (with_most shares (if b then seat else best) others)) [
      | true ↦ λ more. let rest = most_le shares seat others in grind (arith, ints, rest)
      | false ↦ λ no_more. most_le shares best others
    ]
    refl

-- a seat before those among which another is the first with most
in_front : (shares : Seat → ℤ) (first best seat : Seat) (others : List Seat) → shares seat ≤ℤ shares best
    → IsFirstWithMost shares first (best ∷ others) → IsFirstWithMost shares first (best ∷ seat ∷ others)
in_front shares first best seat others no_more is =
    elim is [
      | inl here ↦ let best_is : shares best ≡ shares first =
          ap shares here.0 in inl (here.0, (omega (arith, ints, no_more, best_is), here.1))
      | inr later ↦ let fewer = later.0 in inr (fewer, inr (omega (arith, ints, no_more, fewer), later.1))
    ]

-- it is the first with most
pub first_with_most : (shares : Seat → ℤ) (best : Seat) (others : List Seat)
    → IsFirstWithMost shares (with_most shares best others) (best ∷ others)
first_with_most shares best [] = inl (refl, tt)
first_with_most shares best (seat ∷ others) =
    elim (lt_z (shares best) (shares seat)) as (λ (b : Bool). lt_z (shares best) (shares seat) ≡ b
    → IsFirstWithMost shares (with_most shares (if b then seat else best) others) (best ∷ seat ∷ others)) [
      | true ↦ λ more. let rest = most_le shares seat others in inr
          (grind (arith, ints, rest), first_with_most shares seat others)
      | false ↦ λ no_more. in_front shares (with_most shares best others) best seat others (grind (arith, ints))
          (first_with_most shares best others)
    ]
    refl

-- one more seat to the left
pub one_more : (shares : Seat → ℤ) (seats counter : ℕ) (best seat next found : Seat) → counter < seats
    → next ≡ left_of seats seat → found ≡ better_of shares best next
    → with_most shares found (seats_from seats (seats - (counter + 1)) (left_of seats next))
    ≡ with_most shares best (seats_from seats (seats - counter) (left_of seats seat))
one_more shares seats counter best seat next found fewer is_next is_found =
    let one : suc (seats - (counter + 1)) ≡ seats - counter = omega arith in
    let rest : Seat → List Seat = λ (from : Seat). seats_from seats (seats - (counter + 1)) (left_of seats from) in
    ap (λ (its : Seat). with_most shares its (rest next)) is_found
    ∙ ap (λ (from : Seat). with_most shares (better_of shares best from) (rest from)) is_next
    ∙ ap (λ (n : ℕ). with_most shares best (seats_from seats n (left_of seats seat))) one
