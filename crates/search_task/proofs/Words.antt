-- Marks as bits in words of 64: what setting a bit, and joining, taking away or comparing words
-- does, mark by mark.
use Rattle.std.proofs.Common.{◌≡◌, ◌↔◌, ℕ, zero, suc, ◌+◌, ◌-◌, ◌*◌, ◌/◌, ◌%◌, ◌^◌, ◌<◌, ◌≤◌, Bool, true, false, ◌||◌}
use Rattle.std.proofs.Common.{◌⊎◌, inl, inr, List, [], ◌∷◌, length, get_or, set, replicate, refl, sym, ap, subst, ◌∙◌}
use Rattle.std.proofs.Common.{arith, eq-eqb, eqb, eqb-true, get_or-set_same, get_or-set_other, length-set, w64}
use Rattle.std.specs.Prelude.{bit_and, bit_or, not}
use Rattle.std.specs.Int.{bit_at, trailing_zeros}
use Rattle.std.proofs.lemmas.Bool.{cases_eq, cases_lt, or_cases, or_left, or_right}
use Rattle.std.proofs.lemmas.List.{get_or_past, get_or-replicate, length-replicate}
use Rattle.std.proofs.lemmas.List.FromFn.{get_or-map-range_with_len, length-map-range_with_len}
use Rattle.std.proofs.lemmas.Nat.{and_le_l, bit_set_by_shift, pow_below, shr-shr}
use Rattle.std.proofs.lemmas.Nat.Bits.{bit_at-lt, bit_at-trailing_zeros, bit_at-zero, bit_at_and, bit_at_ones}
use Rattle.std.proofs.lemmas.Nat.Bits.{bit_at_ones_above, bit_at_or, bit_at_set_other, bit_at_set_same, shr_and_one}
use Rattle.legal_runs.proofs.Tests.{to_not}
use Rattle.search_task.specs.Marks.{AreApart, AreBarred, AreBoth, AreOnly, Freer, FillWords, HasNoneFrom, IsMarked}
use Rattle.search_task.specs.Marks.{IsBitOf, bit_of, mark_at, marks_in}
use Rattle.search_task.proofs.Marked.{mark_more}
use Rattle.search_task.proofs.Places.{below_next}
use Rattle.search_task.proofs.Booleans.{not_both, not_self}
use Rattle.tables.proofs.Tests.{same_bool}

-- there are as many marks as numbers
pub length_marks : (count : ℕ) (words : List ℕ) → length (marks_in count words) ≡ count
unfolding marks_in
length_marks count words = length-map-range_with_len (mark_at words) 0 count

-- the mark of a number is its bit
pub mark_is : (count : ℕ) (words : List ℕ) (n : ℕ) → n < count → get_or (marks_in count words) n false ≡ mark_at words n
unfolding marks_in
mark_is count words n low = get_or-map-range_with_len (mark_at words) 0 count n n false low (omega arith)

is_bit : (words : List ℕ) (n : ℕ) → mark_at words n ≡ true → bit_of words n ≡ 1
unfolding mark_at
is_bit words n is = eqb-true (bit_of words n) 1 is

bit_is : (words : List ℕ) (n : ℕ) → bit_of words n ≡ 1 → mark_at words n ≡ true
unfolding mark_at
bit_is words n is = eq-eqb (bit_of words n) 1 is

-- only numbers below the count are marked
pub marked_low : (marks : List Bool) (n : ℕ) → IsMarked marks n → n < length marks
marked_low marks n is =
    elim (cases_lt n (length marks)) [
      | inl low ↦ low
      | inr past ↦ absurd (not_both (get_or marks n false) is (get_or_past marks n false past))
    ]

-- the test of a bit
pub test_is : (words : List ℕ) (n : ℕ) → eqb (bit_and (get_or words (n / 64) 0 / 2 ^ (n % 64)) 1) 1 ≡ mark_at words n
unfolding mark_at
test_is words n = rw shr_and_one refl

-- a mark, and its bit
pub marked_bit : (count : ℕ) (words : List ℕ) (n : ℕ) → IsMarked (marks_in count words) n
    → (n < count) × (bit_of words n ≡ 1)
marked_bit count words n is =
    let low : n < count = omega (arith, marked_low (marks_in count words) n is, length_marks count words) in
    (low, is_bit words n (sym (mark_is count words n low) ∙ is))

pub bit_marked : (count : ℕ) (words : List ℕ) (n : ℕ) → n < count → bit_of words n ≡ 1
    → IsMarked (marks_in count words) n
bit_marked count words n low bit = mark_is count words n low ∙ bit_is words n bit

-- the test of a bit in either of two words
either_bit : (a b i : ℕ) → eqb (bit_at (bit_or a b) i) 1 ≡ (eqb (bit_at a i) 1 || eqb (bit_at b i) 1)
either_bit a b i =
    same_bool (eqb (bit_at (bit_or a b) i) 1) (eqb (bit_at a i) 1 || eqb (bit_at b i) 1)
    (λ holds. let is = eqb-true (bit_at (bit_or a b) i) 1 holds in
    elim (cases_eq (bit_at a i) 1) [
      | inl one ↦ or_left (eqb (bit_at a i) 1) (eqb (bit_at b i) 1) (eq-eqb (bit_at a i) 1 one)
      | inr other ↦ or_right (eqb (bit_at a i) 1) (eqb (bit_at b i) 1)
          (eq-eqb (bit_at b i) 1 (omega (arith, is, other, bit_at_or a b i, bit_at-lt a i)))
    ])
    (λ holds. eq-eqb (bit_at (bit_or a b) i) 1 (elim (or_cases (eqb (bit_at a i) 1) (eqb (bit_at b i) 1) holds) [
      | inl one ↦ omega (arith, eqb-true (bit_at a i) 1 one, bit_at_or a b i, bit_at-lt b i)
      | inr two ↦ omega (arith, eqb-true (bit_at b i) 1 two, bit_at_or a b i, bit_at-lt a i)
    ]))

either_is : (words others : List ℕ) (n : ℕ)
    → eqb (bit_and (bit_or (get_or words (n / 64) 0) (get_or others (n / 64) 0) / 2 ^ (n % 64)) 1) 1
    ≡ (mark_at words n || mark_at others n)
unfolding mark_at
either_is words others n =
    rw shr_and_one (either_bit (get_or words (n / 64) 0) (get_or others (n / 64) 0) (n % 64))

-- the test of a bit in place
in_place : (word k : ℕ) → not (eqb (bit_and word (2 ^ k)) 0) ≡ eqb (bit_and (word / 2 ^ k) 1) 1
in_place word k =
    same_bool (not (eqb (bit_and word (2 ^ k)) 0)) (eqb (bit_and (word / 2 ^ k) 1) 1)
    (λ holds. eq-eqb (bit_and (word / 2 ^ k) 1) 1 ((bit_set_by_shift word k).1 (λ none.
    not_self (eqb (bit_and word (2 ^ k)) 0) (eq-eqb (bit_and word (2 ^ k)) 0 none) holds)))
    (λ holds. to_not (eqb (bit_and word (2 ^ k)) 0) (λ none.
    (bit_set_by_shift word k).0 (eqb-true (bit_and (word / 2 ^ k) 1) 1 holds)
    (eqb-true (bit_and word (2 ^ k)) 0 none)))

pub at_is : (words : List ℕ) (n k bit : ℕ) → k ≡ n / 64 → IsBitOf n bit
    → not (eqb (bit_and (get_or words k 0) bit) 0) ≡ mark_at words n
at_is words n k bit at is = rw (at, is) (in_place (get_or words (n / 64) 0) (n % 64) ∙ test_is words n)

pub either_at_is : (words others : List ℕ) (n k bit : ℕ) → k ≡ n / 64 → IsBitOf n bit
    → not (eqb (bit_and (bit_or (get_or words k 0) (get_or others k 0)) bit) 0) ≡ (mark_at words n || mark_at others n)
either_at_is words others n k bit at is =
    rw (at, is)
    (in_place (bit_or (get_or words (n / 64) 0) (get_or others (n / 64) 0)) (n % 64) ∙ either_is words others n)

-- the word of a number's bit
pub bit_alone : (n : ℕ) → IsBitOf n (1 * 2 ^ (n % 64) % 2 ^ 64)
bit_alone n = omega (arith, pow_below (n % 64) 64 (omega arith))

-- two lists with the same marks are the same
pub same_marks : (marks others : List Bool) → length marks ≡ length others
    → ((n : ℕ) → IsMarked marks n ↔ IsMarked others n) → marks ≡ others
same_marks [] [] long each = refl
same_marks [] (other ∷ others) long each = absurd (omega arith)
same_marks (mark ∷ marks) [] long each = absurd (omega arith)
same_marks (mark ∷ marks) (other ∷ others) long each =
    let first : mark ≡ other = same_bool mark other (each 0).0 (each 0).1 in
    let rest : marks ≡ others = same_marks marks others (omega arith) (λ n. each (suc n)) in
    cc

-- a word with one more bit
abbrev with_bit : List ℕ → ℕ → ℕ
with_bit words n = bit_or (get_or words (n / 64) 0) (1 * 2 ^ (n % 64) % 2 ^ 64)

bit_here : (words : List ℕ) (n m : ℕ) → n / 64 < length words → m / 64 ≡ n / 64 → m % 64 ≡ n % 64
    → bit_of (set words (n / 64) (with_bit words n)) m ≡ 1
bit_here words n m low same also =
    rw (same, also, get_or-set_same words (n / 64) (with_bit words n) 0 low)
    (bit_at_set_same w64 (get_or words (n / 64) 0) (n % 64) (omega arith))

bit_beside : (words : List ℕ) (n m : ℕ) → n / 64 < length words → m / 64 ≡ n / 64 → (m % 64 ≡ n % 64 → ⊥)
    → bit_of (set words (n / 64) (with_bit words n)) m ≡ bit_of words m
bit_beside words n m low same other =
    rw (same, get_or-set_same words (n / 64) (with_bit words n) 0 low)
    (bit_at_set_other w64 (get_or words (n / 64) 0) (n % 64) (omega arith) (m % 64) other)

bit_apart : (words : List ℕ) (n m : ℕ) → (m / 64 ≡ n / 64 → ⊥)
    → bit_of (set words (n / 64) (with_bit words n)) m ≡ bit_of words m
bit_apart words n m other = rw (get_or-set_other words (n / 64) (m / 64) (with_bit words n) 0 other) refl

-- the bit of another number stays
pub bit_stays : (words : List ℕ) (n m : ℕ) → n / 64 < length words → (m ≡ n → ⊥)
    → bit_of (set words (n / 64) (with_bit words n)) m ≡ bit_of words m
bit_stays words n m low other =
    elim (cases_eq (m / 64) (n / 64)) [
      | inl same ↦ bit_beside words n m low same (λ also. other (omega (arith, same, also)))
      | inr apart ↦ bit_apart words n m apart
    ]

-- one more number is marked
set_each : (count : ℕ) (words : List ℕ) (n m : ℕ) → n < count → n / 64 < length words
    → IsMarked (marks_in count (set words (n / 64) (with_bit words n))) m
    ↔ IsMarked (set (marks_in count words) n true) m
set_each count words n m low within =
    let more : IsMarked (set (marks_in count words) n true) m ↔ ((m ≡ n) ⊎ IsMarked (marks_in count words) m) =
    mark_more (marks_in count words) n m (omega (arith, length_marks count words)) in
    elim (cases_eq m n) [
      | inl same ↦ (
        λ is. more.1 (inl same),
        λ is. bit_marked count (set words (n / 64) (with_bit words n)) m (omega arith)
            (bit_here words n m within (ap (λ k. k / 64) same) (ap (λ k. k % 64) same)),
      )
      | inr other ↦ (
        λ is. let bit = marked_bit count (set words (n / 64) (with_bit words n)) m is in
            more.1 (inr (bit_marked count words m bit.0 (sym (bit_stays words n m within other) ∙ bit.1))),
        λ is. elim (more.0 is) [
          | inl same ↦ absurd (other same)
          | inr before ↦ let bit = marked_bit count words m before in
              bit_marked count (set words (n / 64) (with_bit words n)) m bit.0
              (bit_stays words n m within other ∙ bit.1)
        ],
      )
    ]

pub set_mark : (count : ℕ) (words : List ℕ) (n : ℕ) → n < count → n / 64 < length words
    → marks_in count (set words (n / 64) (with_bit words n)) ≡ set (marks_in count words) n true
set_mark count words n low within =
    same_marks (marks_in count (set words (n / 64) (with_bit words n))) (set (marks_in count words) n true)
    (length_marks count (set words (n / 64) (with_bit words n))
    ∙ sym (length-set (marks_in count words) n true ∙ length_marks count words))
    (λ m. set_each count words n m low within)

-- so has no bit from one on
pub set_none : (count : ℕ) (words : List ℕ) (n : ℕ) → n < count → n / 64 < length words → HasNoneFrom count words
    → HasNoneFrom count (set words (n / 64) (with_bit words n))
set_none count words n low within clean =
    record { none = λ m high. bit_stays words n m within (λ same. absurd (omega arith)) ∙ clean.none m high }

-- no bit is set
pub bit_none : (width n : ℕ) → bit_of (replicate {A = ℕ} width 0) n ≡ 0
bit_none width n = ap (λ word. bit_at word (n % 64)) (all_zero width (n / 64)) ∙ bit_at-zero (n % 64)
  where
    all_zero : (width k : ℕ) → get_or (replicate {A = ℕ} width 0) k 0 ≡ 0
    all_zero zero k = refl
    all_zero (suc width) zero = refl
    all_zero (suc width) (suc k) = all_zero width k

pub none_marks : (count width : ℕ) → marks_in count (replicate {A = ℕ} width 0) ≡ replicate count false
none_marks count width =
    same_marks (marks_in count (replicate {A = ℕ} width 0)) (replicate count false)
    (length_marks count (replicate {A = ℕ} width 0) ∙ sym (length-replicate count false)) each
  where
    never : (n m : ℕ) → IsMarked (replicate n false) m → ⊥
    never zero m is = let wrong : false ≡ true = is in cc
    never (suc n) zero is = let wrong : false ≡ true = is in cc
    never (suc n) (suc m) is = never n m is

    each : (m : ℕ) → IsMarked (marks_in count (replicate {A = ℕ} width 0)) m ↔ IsMarked (replicate count false) m
    each m = (
      λ is. let bit = marked_bit count (replicate {A = ℕ} width 0) m is in absurd
          (omega (arith, bit.1, bit_none width m)),
      λ is. absurd (never count m is),
    )

-- words joined bit by bit
pub joined : (count width : ℕ) (a b new : List ℕ) → count ≤ 64 * width
    → ((j : ℕ) → j < width → get_or new j 0 ≡ bit_or (get_or a j 0) (get_or b j 0))
    → AreBoth (marks_in count a) (marks_in count b) (marks_in count new)
joined count width a b new fits each =
    record {
      whole = length_marks count new ∙ sym (length_marks count a);
      each = λ n. (
        λ is. let bit = marked_bit count new n is in
            elim (cases_eq (bit_of a n) 1) [
              | inl here ↦ inl (bit_marked count a n bit.0 here)
              | inr clear ↦ inr (bit_marked count b n bit.0 (omega (
                arith,
                bit.1,
                clear,
                at n bit.0,
                bit_at_or (get_or a (n / 64) 0) (get_or b (n / 64) 0) (n % 64),
                bit_at-lt (get_or a (n / 64) 0) (n % 64),
              )))
            ],
        λ is. elim is [
          | inl first ↦ let bit = marked_bit count a n first in
              bit_marked count new n bit.0 (omega (
                arith,
                bit.1,
                at n bit.0,
                bit_at_or (get_or a (n / 64) 0)
                    (get_or b (n / 64) 0) (n % 64),
                bit_at-lt (get_or b (n / 64) 0) (n % 64),
              ))
          | inr second ↦ let bit = marked_bit count b n second in
              bit_marked count new n bit.0 (omega (
                arith,
                bit.1,
                at n bit.0,
                bit_at_or (get_or a (n / 64) 0)
                    (get_or b (n / 64) 0) (n % 64),
                bit_at-lt (get_or a (n / 64) 0) (n % 64),
              ))
        ],
      );
    }
  where
    at : (n : ℕ) → n < count → bit_of new n ≡ bit_at (bit_or (get_or a (n / 64) 0) (get_or b (n / 64) 0)) (n % 64)
    at n low = ap (λ word. bit_at word (n % 64)) (each (n / 64) (omega arith))

-- the bits of one word without those of another
abbrev pub IsWithout : ℕ → ℕ → ℕ → Type 0
IsWithout word other left = (bit : ℕ) → bit < 64 → bit_at left bit ≡ bit_at word bit - bit_at other bit

pub taken_away : (count width : ℕ) (a b new : List ℕ) → count ≤ 64 * width
    → ((j : ℕ) → j < width → IsWithout (get_or a j 0) (get_or b j 0) (get_or new j 0))
    → AreOnly (marks_in count a) (marks_in count b) (marks_in count new)
taken_away count width a b new fits each =
    record {
      whole = length_marks count new ∙ sym (length_marks count a);
      each = λ n. (
        λ is. let bit = marked_bit count new n is in (
          bit_marked count a n bit.0 (omega (arith, bit.1, at n bit.0, bit_at-lt (get_or a (n / 64) 0) (n % 64))),
          λ met. let other = marked_bit count b n met in
              absurd (omega (arith, bit.1, other.1, at n bit.0, bit_at-lt (get_or a (n / 64) 0) (n % 64))),
        ),
        λ is. let bit = marked_bit count a n is.0 in
            elim (cases_eq (bit_of b n) 1) [
              | inl met ↦ absurd (is.1 (bit_marked count b n bit.0 met))
              | inr clear ↦ bit_marked count new n bit.0 (omega
                  (arith, bit.1, clear, at n bit.0, bit_at-lt (get_or b (n / 64) 0) (n % 64)))
            ],
      );
    }
  where
    at : (n : ℕ) → n < count → bit_of new n ≡ bit_of a n - bit_of b n
    at n low = each (n / 64) (omega arith) (n % 64) (omega arith)

-- no word has a bit that another has
pub apart_words : (count width : ℕ) (a b : List ℕ) → count ≤ 64 * width
    → ((j : ℕ) → j < width → bit_and (get_or a j 0) (get_or b j 0) ≡ 0) → AreApart (marks_in count a) (marks_in count b)
apart_words count width a b fits each n first second =
    let one = marked_bit count a n first in
    let two = marked_bit count b n second in
    let at : bit_at (bit_and (get_or a (n / 64) 0) (get_or b (n / 64) 0)) (n % 64) ≡ bit_at 0 (n % 64) =
    ap (λ word. bit_at word (n % 64)) (each (n / 64) (omega arith)) in
    absurd (omega (
      arith,
      one.1,
      two.1,
      at,
      bit_at_and (get_or a (n / 64) 0) (get_or b (n / 64) 0) (n % 64),
      bit_at-zero (n % 64),
    ))

-- a word has one
meets_at : (count : ℕ) (a b : List ℕ) (k i : ℕ) → HasNoneFrom count a → i < 64
    → bit_at (bit_and (get_or a k 0) (get_or b k 0)) i ≡ 1 → AreApart (marks_in count a) (marks_in count b) → ⊥
meets_at count a b k i clean low bit apart =
    let word : (64 * k + i) / 64 ≡ k = omega (arith, low) in
    let rest : (64 * k + i) % 64 ≡ i = omega (arith, low) in
    let both = bit_at_and (get_or a k 0) (get_or b k 0) i in
    let one : bit_at (get_or a k 0) i ≡ 1 = omega (arith, both, bit, bit_at-lt (get_or a k 0) i) in
    let two : bit_at (get_or b k 0) i ≡ 1 = omega (arith, both, bit, bit_at-lt (get_or b k 0) i) in
    let first : bit_of a (64 * k + i) ≡ 1 = rw (word, rest) one in
    let second : bit_of b (64 * k + i) ≡ 1 = rw (word, rest) two in
    let within : 64 * k + i < count = elim (cases_lt (64 * k + i) count)
    [ inl less ↦ less | inr past ↦ absurd (omega (arith, clean.none (64 * k + i) past, first)) ] in
    apart (64 * k + i) (bit_marked count a (64 * k + i) within first) (bit_marked count b (64 * k + i) within second)

some_bit : (n : ℕ) → (n ≡ 0 → ⊥) → 0 < n
some_bit zero some = absurd (some refl)
some_bit (suc n) some = omega arith

pub met_words : (count : ℕ) (a b : List ℕ) (k : ℕ) → HasNoneFrom count a → get_or a k 0 < 2 ^ 64
    → (bit_and (get_or a k 0) (get_or b k 0) ≡ 0 → ⊥) → AreApart (marks_in count a) (marks_in count b) → ⊥
met_words count a b k clean fits some apart =
    let both : ℕ = bit_and (get_or a k 0) (get_or b k 0) in
    let lowest = bit_at-trailing_zeros w64 (bit_and (get_or a k 0) (get_or b k 0))
    (some_bit (bit_and (get_or a k 0) (get_or b k 0)) some)
    (omega (arith, fits, and_le_l (get_or a k 0) (get_or b k 0))) in
    meets_at count a b k (trailing_zeros w64 (bit_and (get_or a k 0) (get_or b k 0))) clean lowest.0 lowest.1 apart

-- the number of the lowest bit of a word
abbrev pub lowest_of : ℕ → ℕ → ℕ
lowest_of k word = 64 * k + trailing_zeros w64 word

lowest_bit : (words : List ℕ) (k : ℕ) → get_or words k 0 < 2 ^ 64 → (get_or words k 0 ≡ 0 → ⊥)
    → bit_of words (lowest_of k (get_or words k 0)) ≡ 1
lowest_bit words k fits some =
    let lowest = bit_at-trailing_zeros w64 (get_or words k 0) (some_bit (get_or words k 0) some)
    (omega (arith, fits)) in
    let i : ℕ = trailing_zeros w64 (get_or words k 0) in
    let word : (64 * k + i) / 64 ≡ k = omega (arith, lowest.0) in
    let rest : (64 * k + i) % 64 ≡ i = omega (arith, lowest.0) in
    rw (word, rest) lowest.1

pub first_low : (count : ℕ) (words : List ℕ) (k : ℕ) → HasNoneFrom count words → get_or words k 0 < 2 ^ 64
    → (get_or words k 0 ≡ 0 → ⊥) → lowest_of k (get_or words k 0) < count
first_low count words k clean fits some =
    let bit = lowest_bit words k fits some in
    elim (cases_lt (lowest_of k (get_or words k 0)) count)
    [ inl less ↦ less | inr past ↦ absurd (omega (arith, clean.none (lowest_of k (get_or words k 0)) past, bit)) ]

pub first_marked : (count : ℕ) (words : List ℕ) (k : ℕ) → HasNoneFrom count words → get_or words k 0 < 2 ^ 64
    → (get_or words k 0 ≡ 0 → ⊥) → IsMarked (marks_in count words) (lowest_of k (get_or words k 0))
first_marked count words k clean fits some =
    bit_marked count words (lowest_of k (get_or words k 0)) (first_low count words k clean fits some)
    (lowest_bit words k fits some)

-- no word has a bit
pub unmarked : (count width : ℕ) (words : List ℕ) → count ≤ 64 * width → ((j : ℕ) → j < width → get_or words j 0 ≡ 0)
    → (n : ℕ) → IsMarked (marks_in count words) n → ⊥
unmarked count width words fits none n is =
    let bit = marked_bit count words n is in
    let at : bit_of words n ≡ bit_at 0 (n % 64) = ap (λ word. bit_at word (n % 64))
    (none (n / 64) (omega (arith, fits, bit.0))) in
    absurd (omega (arith, bit.1, at, bit_at-zero (n % 64)))

-- all that is marked in one is marked in another
pub freer_from : (marks others : List Bool) → length marks ≡ length others
    → ((n : ℕ) → IsMarked others n → IsMarked marks n) → Freer marks others
freer_from [] [] long each = tt
freer_from [] (other ∷ others) long each = absurd (omega arith)
freer_from (mark ∷ marks) [] long each = absurd (omega arith)
freer_from (mark ∷ marks) (other ∷ others) long each =
    (each 0, freer_from marks others (omega arith) (λ n. each (suc n)))

pub within_words : (count width : ℕ) (a b : List ℕ) → count ≤ 64 * width
    → ((j bit : ℕ) → j < width → bit < 64 → bit_at (get_or a j 0) bit ≤ bit_at (get_or b j 0) bit)
    → Freer (marks_in count b) (marks_in count a)
within_words count width a b fits each =
    freer_from (marks_in count b) (marks_in count a) (length_marks count b ∙ sym (length_marks count a)) (λ n is.
    let bit = marked_bit count a n is in
    bit_marked count b n bit.0 (omega (
      arith,
      bit.1,
      each (n / 64) (n % 64) (omega (arith, fits, bit.0))
          (omega arith),
      bit_at-lt (get_or b (n / 64) 0) (n % 64),
    )))

-- a word that has no bit that another has not
pub none_without : (word other : ℕ) → IsWithout word other 0 → (bit : ℕ) → bit < 64 → bit_at word bit ≤ bit_at other bit
none_without word other without bit low = omega (arith, without bit low, bit_at-zero bit)

-- no bit is set from a number on: where two are joined, and where some are taken away
pub joined_none : (count width : ℕ) (a b new : List ℕ) → length new ≡ width
    → ((j : ℕ) → j < width → get_or new j 0 ≡ bit_or (get_or a j 0) (get_or b j 0)) → HasNoneFrom count a
    → HasNoneFrom count b → HasNoneFrom count new
joined_none count width a b new long each first second =
    record {
      none = λ n high. elim (cases_lt (n / 64) width) [
        | inl low ↦ ap (λ word. bit_at word (n % 64)) (each (n / 64) low)
            ∙ omega (
              arith,
              first.none n high,
              second.none n high,
              bit_at_or (get_or a (n / 64) 0)
                  (get_or b (n / 64) 0) (n % 64),
            )
        | inr past ↦ past_none new n (omega (arith, long, past))
      ];
    }
  where
    past_none : (words : List ℕ) (n : ℕ) → length words ≤ n / 64 → bit_of words n ≡ 0
    past_none words n past = ap (λ word. bit_at word (n % 64)) (get_or_past words (n / 64) 0 past)
        ∙ bit_at-zero (n % 64)

pub taken_none : (count width : ℕ) (a b new : List ℕ) → length new ≡ width
    → ((j : ℕ) → j < width → IsWithout (get_or a j 0) (get_or b j 0) (get_or new j 0)) → HasNoneFrom count a
    → HasNoneFrom count new
taken_none count width a b new long each first =
    record {
      none = λ n high. elim (cases_lt (n / 64) width) [
        | inl low ↦ omega (arith, first.none n high, each (n / 64) low (n % 64) (omega arith))
        | inr past ↦ ap (λ word. bit_at word (n % 64)) (get_or_past new (n / 64) 0 (omega (arith, long, past)))
            ∙ bit_at-zero (n % 64)
      ];
    }

-- the next word is taken away from
pub without_more : (a b words : List ℕ) (k value : ℕ) → k < length words
    → IsWithout (get_or words k 0) (get_or b k 0) value
    → ((j : ℕ) → j < k → IsWithout (get_or a j 0) (get_or b j 0) (get_or words j 0))
    → ((j : ℕ) → k ≤ j → get_or words j 0 ≡ get_or a j 0) → (j : ℕ) → j < k + 1
    → IsWithout (get_or a j 0) (get_or b j 0) (get_or (set words k value) j 0)
without_more a b words k value low here before rest j less =
    elim (below_next j k less) [
      | inl under ↦
          subst (λ (word : ℕ). IsWithout (get_or a j 0) (get_or b j 0) word)
          (sym (get_or-set_other words k j value 0 (λ same. absurd (omega arith)))) (before j under)
      | inr same ↦
          subst (λ (i : ℕ). IsWithout (get_or a i 0) (get_or b i 0) (get_or (set words k value) i 0)) (sym same)
          (subst (λ (word : ℕ). IsWithout (get_or a k 0) (get_or b k 0) word)
          (sym (get_or-set_same words k value 0 low))
          (subst (λ (word : ℕ). IsWithout word (get_or b k 0) value) (rest k (omega arith)) here))
    ]

-- words with all bits for the first numbers set, and no others
unfoldable pub all_words : ℕ → ℕ → List ℕ
all_words count words =
    set (replicate words 18446744073709551615) (words - 1) (18446744073709551615 / 2 ^
    (64 - (count - 64 * (words - 1))))

-- a word without its lowest bits
shifted : (word by bit : ℕ) → bit_at (word / 2 ^ by) bit ≡ bit_at word (by + bit)
shifted word by bit = ap (λ x. x % 2) (shr-shr word by bit)

bit_before : (count words : ℕ) → FillWords count words → (n : ℕ) → n / 64 < words - 1
    → bit_of (all_words count words) n ≡ 1
unfolding all_words
bit_before count words fill n low =
    let last = 18446744073709551615 / 2 ^ (64 - (count - 64 * (words - 1))) in
    ap (λ word. bit_at word (n % 64))
    (get_or-set_other (replicate words 18446744073709551615) (words - 1) (n / 64) last 0 (λ same. absurd (omega arith))
    ∙ get_or-replicate words (n / 64) 18446744073709551615 0 (omega arith))
    ∙ bit_at_ones 64 (n % 64) (omega arith)

bit_last : (count words : ℕ) → FillWords count words → (n : ℕ) → n / 64 ≡ words - 1
    → bit_of (all_words count words) n ≡ bit_at 18446744073709551615 (64 - (count - 64 * (words - 1)) + n % 64)
unfolding all_words
bit_last count words fill n at =
    let spare = 64 - (count - 64 * (words - 1)) in
    ap (λ k. bit_at (get_or (set (replicate words 18446744073709551615) (words - 1) (18446744073709551615 / 2 ^ spare))
    k 0) (n % 64)) at
    ∙ (ap (λ word. bit_at word (n % 64))
    (get_or-set_same (replicate words 18446744073709551615) (words - 1) (18446744073709551615 / 2 ^ spare) 0
    (omega (arith, fill.0, fill.1, length-replicate {A = ℕ} words 18446744073709551615)))
    ∙ shifted 18446744073709551615 spare (n % 64))

bit_after : (count words : ℕ) (n : ℕ) → words ≤ n / 64 → bit_of (all_words count words) n ≡ 0
unfolding all_words
bit_after count words n past =
    let last = 18446744073709551615 / 2 ^ (64 - (count - 64 * (words - 1))) in
    ap (λ word. bit_at word (n % 64))
    (get_or_past (set (replicate words 18446744073709551615) (words - 1) last) (n / 64) 0
    (omega (
      arith,
      length-set (replicate words 18446744073709551615) (words - 1) last,
      length-replicate {A = ℕ} words
          18446744073709551615,
      past,
    )))
    ∙ bit_at-zero (n % 64)

full_bit : (count words : ℕ) → FillWords count words → (n : ℕ) → n < count → bit_of (all_words count words) n ≡ 1
full_bit count words fill n low =
    elim (cases_lt (n / 64) (words - 1)) [
      | inl less ↦ bit_before count words fill n less
      | inr high ↦ bit_last count words fill n (omega (arith, fill.0, fill.1, low, high))
          ∙ bit_at_ones 64 (64 - (count - 64 * (words - 1)) + n % 64)
          (omega (arith, fill.0, fill.1, fill.2, low, high))
    ]

full_none : (count words : ℕ) → FillWords count words → (n : ℕ) → count ≤ n → bit_of (all_words count words) n ≡ 0
full_none count words fill n high =
    elim (cases_lt (n / 64) words) [
      | inl less ↦ bit_last count words fill n (omega (arith, fill.0, fill.2, high, less))
          ∙ bit_at_ones_above 64 (64 - (count - 64 * (words - 1)) + n % 64)
          (omega (arith, fill.0, fill.1, fill.2, high, less))
      | inr past ↦ bit_after count words n past
    ]

pub all_none : (count words : ℕ) → FillWords count words → HasNoneFrom count (all_words count words)
all_none count words fill = record { none = λ n high. full_none count words fill n high }

marked_true : (n m : ℕ) → m < n → IsMarked (replicate n true) m
marked_true zero m low = absurd (omega arith)
marked_true (suc n) zero low = refl
marked_true (suc n) (suc m) low = marked_true n m (omega arith)

pub all_marks : (count words : ℕ) → FillWords count words
    → marks_in count (all_words count words) ≡ replicate count true
all_marks count words fill =
    same_marks (marks_in count (all_words count words)) (replicate count true)
    (length_marks count (all_words count words) ∙ sym (length-replicate count true))
    (λ n. (
      λ is. marked_true count n (marked_bit count (all_words count words) n is).0,
      λ is. let low : n < count = omega (arith, marked_low (replicate count true) n is, length-replicate count true) in
          bit_marked count (all_words count words) n low (full_bit count words fill n low),
    ))

-- what is open is taken away from all
pub barred_out : (count : ℕ) (marks reach fresh barred : List Bool) → length marks ≡ count → AreOnly reach marks fresh
    → AreOnly (replicate count true) fresh barred → AreBarred marks reach barred
barred_out count marks reach fresh barred whole opens bars =
    record {
      whole = bars.whole ∙ (length-replicate count true ∙ sym whole);
      kept = λ n is. (bars.each n).1 (
        marked_true count n (omega (arith, marked_low marks n is, whole)),
        λ opened.
            ((opens.each n).0 opened).1 is,
      );
      only = λ n lies out. elim (marked_or (get_or marks n false)) [
        | inl is ↦ is
        | inr not ↦ absurd (((bars.each n).0 out).1 ((opens.each n).1
            (lies, λ is. false_true (get_or marks n false) not is)))
      ];
    }
  where
    marked_or : (b : Bool) → (b ≡ true) ⊎ (b ≡ false)
    marked_or true = inl refl
    marked_or false = inr refl

    false_true : (b : Bool) → b ≡ false → b ≡ true → ⊥
    false_true true not is = let wrong : true ≡ false = not in cc
    false_true false not is = let wrong : false ≡ true = is in cc
