-- What the winner of an auction pays: the greatest sums among those of the bidders.
use Rattle.std.proofs.Common.{◌≡◌, ◌≢◌, ◌⊎◌, ℤ, ◌≤ℤ◌, ◌≤◌, List, [], ◌∷◌, length, map, Option, Some, None, unwrap_or}
use Rattle.std.proofs.Common.{inl, inr, refl, sym, subst, ap, ◌∙◌, arith}
use Rattle.std.specs.Prelude.{pos}
use Rattle.std.specs.Int.{int_max}
use Rattle.std.proofs.lemmas.Int.{ints, clamps}
use Rattle.privates.specs.Auction.{AreOthers, Bidder, BidsDiffer, EachBidder, IsAmong, IsGreatest, IsOneOf, NoneIsOver}
use Rattle.privates.specs.Auction.{bid_by, greatest_from, greater_of, limit_by, with_limit, with_limits}

-- the greatest of a sum and others is no less than the sum
greatest_over : (sum : ℤ) (sums : List ℤ) → sum ≤ℤ greatest_from sum sums
greatest_over sum [] = omega (arith, ints)
greatest_over sum (other ∷ sums) =
    let rest = greatest_over (int_max sum other) sums in omega (arith, ints, clamps)

-- nor than another
greatest_over_all : (sum : ℤ) (sums : List ℤ) → NoneIsOver sums (greatest_from sum sums)
greatest_over_all sum [] = tt
greatest_over_all sum (other ∷ sums) =
    let rest = greatest_over (int_max sum other) sums in
    (omega (arith, ints, clamps), greatest_over_all (int_max sum other) sums)

-- the larger of two sums is one of them
larger_of_two : (a b : ℤ) → (a ≡ int_max a b) ⊎ (b ≡ int_max a b)
larger_of_two a b = grind (arith, ints, clamps)

-- the greatest is the sum, or one of the others
greatest_is_one : (sum : ℤ) (sums : List ℤ) → IsOneOf (sum ∷ sums) (greatest_from sum sums)
greatest_is_one sum [] = inl refl
greatest_is_one sum (other ∷ sums) =
    elim (greatest_is_one (int_max sum other) sums) [
      | inl larger ↦
          elim (larger_of_two sum other) [
            | inl first ↦ inl (first ∙ larger)
            | inr second ↦ inr (inl (second ∙ larger))
          ]
      | inr rest ↦ inr (inr rest)
    ]

-- so it is the greatest of all
pub is_greatest : (sum : ℤ) (sums : List ℤ) → IsGreatest (sum ∷ sums) (greatest_from sum sums)
is_greatest sum sums =
    record { is_one = greatest_is_one sum sums; none_over = (greatest_over sum sums, greatest_over_all sum sums) }

-- the others than one of some bidders
pub others_than : (bidders : List Bidder) (one : Bidder) → IsAmong bidders one
    → (others : List Bidder) × AreOthers bidders one others
others_than [] one among = absurd among
others_than (bidder ∷ bidders) one among =
    elim among [
      | inl same ↦ (bidders, inl (same, refl))
      | inr later ↦ let rest = others_than bidders one later in (bidder ∷ rest.0, inr (rest.0, refl, rest.1))
    ]

-- the winner's limit is not counted among the others' limits
passed_over : (winner : Bidder) (second : Option ℤ) → with_limit winner second winner ≡ second
passed_over winner second = grind (arith, ints)

-- so the limits of all count as those of the others
pub without_winner : (winner : Bidder) (second : Option ℤ) (bidders others : List Bidder)
    → AreOthers bidders winner others →
    with_limits winner second bidders ≡ with_limits winner second others
without_winner winner second [] others are = absurd are
without_winner winner second (bidder ∷ bidders) others are =
    elim are [
      | inl here ↦
          ap (λ (b : Bidder). with_limits winner (with_limit winner second b) bidders) here.0
          ∙ ap (λ (s : Option ℤ). with_limits winner s bidders) (passed_over winner second)
          ∙ ap (λ (list : List Bidder). with_limits winner second list) (sym here.1)
      | inr later ↦
          without_winner winner (with_limit winner second bidder) bidders later.0 later.2
          ∙ ap (λ (list : List Bidder). with_limits winner second list) (sym later.1)
    ]

-- another bidder's limit counts
counts : (winner : Bidder) (second : Option ℤ) (other : Bidder) → bid_by other ≢ bid_by winner →
    with_limit winner second other ≡ Some (greater_of second (limit_by other))
counts winner second other apart = grind (arith, ints)

-- the greatest so far of the others' limits
greatest_so_far : (winner : Bidder) (sum : ℤ) (others : List Bidder)
    → EachBidder (λ other. bid_by other ≢ bid_by winner) others →
    with_limits winner (Some sum) others ≡ Some (greatest_from sum (map limit_by others))
greatest_so_far winner sum [] apart = refl
greatest_so_far winner sum (other ∷ others) apart =
    ap (λ (s : Option ℤ). with_limits winner s others) (counts winner (Some sum) other apart.0)
    ∙ greatest_so_far winner (int_max sum (limit_by other)) others apart.1

-- who is one of some bidders bids other than each of them that bids other than all of them
one_apart : (bidders : List Bidder) (one other : Bidder) → IsAmong bidders one
    → EachBidder (λ each. bid_by each ≢ bid_by other) bidders →
    bid_by other ≢ bid_by one
one_apart [] one other among apart = absurd among
one_apart (bidder ∷ bidders) one other among apart =
    elim among [
      | inl same ↦ λ equal. apart.0 (ap bid_by same ∙ sym equal)
      | inr later ↦ one_apart bidders one other later apart.1
    ]

-- among others is among all
among_all : (bidders : List Bidder) (one : Bidder) (others : List Bidder) → AreOthers bidders one others
    → IsAmong bidders one
among_all [] one others are = absurd are
among_all (bidder ∷ bidders) one others are =
    elim are [
      | inl here ↦ inl here.0
      | inr later ↦ inr (among_all bidders one later.0 later.2)
    ]

-- the others bid other than the winner
pub others_apart : (bidders : List Bidder) (winner : Bidder) (others : List Bidder) → BidsDiffer bidders
    → AreOthers bidders winner others →
    EachBidder (λ other. bid_by other ≢ bid_by winner) others
others_apart [] winner others differ are = absurd are
others_apart (bidder ∷ bidders) winner others differ are =
    elim are [
      | inl here ↦
          let rest : EachBidder (λ other. bid_by other ≢ bid_by winner) bidders =
          subst (λ (b : Bidder). EachBidder (λ other. bid_by other ≢ bid_by b) bidders) here.0 differ.0 in
          subst (λ (list : List Bidder). EachBidder (λ other. bid_by other ≢ bid_by winner) list) (sym here.1) rest
      | inr later ↦
          let first : bid_by bidder ≢ bid_by winner = one_apart bidders winner bidder
          (among_all bidders winner later.0 later.2) differ.0 in
          subst (λ (list : List Bidder). EachBidder (λ other. bid_by other ≢ bid_by winner) list) (sym later.1)
          (first, others_apart bidders winner later.0 differ.1 later.2)
    ]

-- the second limit is the greatest of the others' limits, of whom there is one
pub greatest_of_others : (winner : Bidder) (others : List Bidder) → 1 ≤ length others
    → EachBidder (λ other. bid_by other ≢ bid_by winner) others →
    IsGreatest (map limit_by others) (unwrap_or (with_limits winner None others) (pos 0))
greatest_of_others winner [] some apart = absurd (omega arith)
greatest_of_others winner (other ∷ others) some apart =
    let found : with_limits winner None (other ∷ others) ≡ Some (greatest_from (limit_by other) (map limit_by others)) =
    ap (λ (s : Option ℤ). with_limits winner s others) (counts winner None other apart.0)
    ∙ greatest_so_far winner (limit_by other) others apart.1
    in
    subst (λ (s : Option ℤ). IsGreatest (map limit_by (other ∷ others)) (unwrap_or s (pos 0))) (sym found)
    (is_greatest (limit_by other) (map limit_by others))

-- of two bidders or more one is another than the winner
pub some_other : (bidders : List Bidder) (winner : Bidder) (others : List Bidder) → 2 ≤ length bidders
    → AreOthers bidders winner others → 1 ≤ length others
some_other [] winner others two are = absurd are
some_other (bidder ∷ bidders) winner others two are =
    elim are [
      | inl here ↦ let same : length others ≡ length bidders =
          ap (λ (list : List Bidder). length list) here.1 in omega arith
      | inr later ↦ let same : length others ≡ length (bidder ∷ later.0) =
          ap (λ (list : List Bidder). length list) later.1 in omega arith
    ]
