-- The table of segments: what is added to it, and how a segment is found there.
use Rattle.std.proofs.Common.{◌≡◌, ℕ, zero, suc, ◌+◌, ◌-◌, ◌<◌, ◌≤◌, Bool, true, false, ◌==◌, ◌⊎◌, inl, inr, Some, List}
use Rattle.std.proofs.Common.{[], ◌∷◌, ◌++◌, length, set, slice_get, refl, sym, ap, subst, ◌∙◌, arith}
use Rattle.std.proofs.Common.{length-append, length-set}
use Rattle.std.proofs.lemmas.Bool.{cases_eq, eq-eqb, eqb-true}
use Rattle.std.proofs.lemmas.Option.{slice_get_within}
use Rattle.search_task.specs.declared.segments.Entry.{Entry}
use Rattle.search_task.specs.declared.segments.Chain.{Chain}
use Rattle.search_task.specs.declared.task.Segment.{Segment}
use Rattle.search_task.specs.Segments.{AreChained, HasPlace, IsChain, IsEntryAt, segment_if, segments_from}

-- what is in a list is there still where one more is added, and that one is at its end
pub more_at : {A : Type 0} (xs ys : List A) (i : ℕ) (x : A) → slice_get xs i ≡ Some x → slice_get (xs ++ ys) i ≡ Some x
more_at [] ys zero x at = absurd cc
more_at [] ys (suc i) x at = absurd cc
more_at (y ∷ xs) ys zero x at = at
more_at (y ∷ xs) ys (suc i) x at = more_at xs ys i x at

pub end_at : {A : Type 0} (xs : List A) (x : A) → slice_get (xs ++ x ∷ []) (length xs) ≡ Some x
end_at [] x = refl
end_at (y ∷ xs) x = end_at xs x

pub at_end : {A : Type 0} (xs : List A) (x : A) (i : ℕ) (y : A) → slice_get (xs ++ x ∷ []) i ≡ Some y
    → (slice_get xs i ≡ Some y) ⊎ ((i ≡ length xs) × (x ≡ y))
at_end [] x zero y at = inr (refl, let same : x ≡ y = cc in same)
at_end [] x (suc i) y at = absurd (omega (arith, slice_get_within (x ∷ []) (suc i) y at))
at_end (z ∷ zs) x zero y at = inl at
at_end (z ∷ zs) x (suc i) y at = elim (at_end zs x i y at)
    [ inl old ↦ inl old | inr last ↦ inr (ap suc last.0, last.1) ]

-- what is in a list with one place changed
pub set_at : {A : Type 0} (xs : List A) (place i : ℕ) (new found : A) → slice_get (set xs place new) i ≡ Some found
    → ((i ≡ place) × (new ≡ found)) ⊎ ((i ≡ place → ⊥) × (slice_get xs i ≡ Some found))
set_at [] place i new found at = absurd (omega (arith, slice_get_within [] i found at))
set_at (x ∷ xs) zero zero new found at = inl (refl, let same : new ≡ found = cc in same)
set_at (x ∷ xs) zero (suc i) new found at = inr (λ is. omega (arith, is), at)
set_at (x ∷ xs) (suc place) zero new found at = inr (λ is. omega (arith, is), at)
set_at (x ∷ xs) (suc place) (suc i) new found at =
    elim (set_at xs place i new found at) [
      | inl here ↦ inl (ap suc here.0, here.1)
      | inr other ↦ inr (λ is. other.0 (omega (arith, is)), other.1)
    ]

-- the segments from a spot where one more is in the table
from_more : (spot : ℕ) (entries : List Entry) (entry : Entry)
    → segments_from spot (entries ++ entry ∷ []) ≡ segments_from spot entries
    ++ segment_if (entry.from == spot) entry.segment []
from_more spot [] entry = refl
from_more spot (first ∷ entries) entry =
    ap (segment_if (first.from == spot) first.segment) (from_more spot entries entry)
    ∙ by_test (first.from == spot) first.segment (segments_from spot entries)
  where
    by_test : (test : Bool) (segment : Segment) (segments : List Segment)
        → segment_if test segment (segments ++ segment_if (entry.from == spot) entry.segment [])
        ≡ segment_if test segment segments ++ segment_if (entry.from == spot) entry.segment []
    by_test true segment segments = refl
    by_test false segment segments = refl

none_behind : {A : Type 0} (xs : List A) → xs ++ [] ≡ xs
none_behind [] = refl
none_behind (x ∷ xs) = ap (λ ys. x ∷ ys) (none_behind xs)

not_same : (a b : ℕ) → (a ≡ b → ⊥) → (a == b) ≡ false
not_same a b other = by_test (a == b) refl
  where
    by_test : (test : Bool) → (a == b) ≡ test → test ≡ false
    by_test false is = refl
    by_test true is = absurd (other (eqb-true a b is))

pub from_here : (spot : ℕ) (entries : List Entry) (entry : Entry) → entry.from ≡ spot
    → segments_from spot (entries ++ entry ∷ []) ≡ segments_from spot entries ++ entry.segment ∷ []
from_here spot entries entry is =
    from_more spot entries entry ∙ ap (λ test. segments_from spot entries ++ segment_if test entry.segment [])
    (eq-eqb entry.from spot is)

pub from_other : (spot : ℕ) (entries : List Entry) (entry : Entry) → (entry.from ≡ spot → ⊥)
    → segments_from spot (entries ++ entry ∷ []) ≡ segments_from spot entries
from_other spot entries entry other =
    from_more spot entries entry
    ∙ (ap (λ test. segments_from spot entries ++ segment_if test entry.segment []) (not_same entry.from spot other)
    ∙ none_behind (segments_from spot entries))

-- there are no more of them than in the table
one_few : (test : Bool) (segment : Segment) (segments : List Segment) (most : ℕ) → length segments ≤ most
    → length (segment_if test segment segments) ≤ suc most
one_few true segment segments most few = omega (arith, few)
one_few false segment segments most few = omega (arith, few)

pub from_few : (spot : ℕ) (entries : List Entry) → length (segments_from spot entries) ≤ length entries
from_few spot [] = omega arith
from_few spot (entry ∷ entries) =
    one_few (entry.from == spot) entry.segment (segments_from spot entries) (length entries) (from_few spot entries)

entry_more : (entries : List Entry) (more : Entry) (there spot place : ℕ) → IsEntryAt entries there spot place
    → IsEntryAt (entries ++ more ∷ []) there spot place
entry_more entries more there spot place is =
    record {
      entry = is.entry;
      there_is = more_at entries (more ∷ []) there is.entry is.there_is;
      from_is =
          is.from_is;
      place_is = is.place_is;
    }

-- one more segment: it comes after those from its spot
module _ (entries : List Entry) (chains : List Chain) (are : AreChained entries chains) (entry : Entry) (old : Chain)
    (at_old : slice_get chains entry.from ≡ Some old) (place_is : entry.place ≡ old.count)
    (before_is : entry.before ≡ old.last) where
  old_is : IsChain entries entry.from old
  old_is = are.chains_are entry.from old at_old

  has_more : (other : Entry) → HasPlace entries other → HasPlace (entries ++ entry ∷ []) other
  has_more other has =
      record {
        segment_is = elim (cases_eq entry.from other.from) [
          | inl same ↦
              subst (λ (ps : List Segment). slice_get ps other.place ≡ Some other.segment)
              (sym (from_here other.from entries entry same))
              (more_at (segments_from other.from entries) (entry.segment ∷ []) other.place other.segment has.segment_is)
          | inr apart ↦
              subst (λ (ps : List Segment). slice_get ps other.place ≡ Some other.segment)
              (sym (from_other other.from entries entry apart)) has.segment_is
        ];
        before = λ place one. entry_more entries entry other.before other.from place (has.before place one);
      }

  has_here : HasPlace (entries ++ entry ∷ []) entry
  has_here =
      record {
        segment_is =
            let at : entry.place ≡ length (segments_from entry.from entries) = place_is ∙ old_is.count in
            subst (λ (n : ℕ). slice_get (segments_from entry.from (entries ++ entry ∷ [])) n ≡ Some entry.segment)
            (sym at)
            (subst (λ (ps : List Segment). slice_get ps (length (segments_from entry.from entries))
            ≡ Some entry.segment) (sym (from_here entry.from entries entry refl))
            (end_at (segments_from entry.from entries) entry.segment));
        before = λ place one.
            subst (λ (n : ℕ). IsEntryAt (entries ++ entry ∷ []) n entry.from place) (sym before_is)
            (entry_more entries entry old.last entry.from place (old_is.last place (one ∙ place_is)));
      }

  pub chained_more : (new : Chain) → new.count ≡ old.count + 1 → new.last ≡ length entries
      → AreChained (entries ++ entry ∷ []) (set chains entry.from new)
  chained_more new count last =
      record {
        long = length-set chains entry.from new ∙ are.long;
        places = λ there other at. elim (at_end entries entry there other at) [
          | inl known ↦ has_more other (are.places there other known)
          | inr here ↦ subst (HasPlace (entries ++ entry ∷ [])) here.1 has_here
        ];
        chains_are = λ spot chain at. elim (set_at chains entry.from spot new chain at) [
          | inl here ↦ subst (IsChain (entries ++ entry ∷ []) spot) here.1 (chain_here spot here.0)
          | inr other ↦ chain_other spot chain other.0 (are.chains_are spot chain other.1)
        ];
      }
    where
      chain_here : (spot : ℕ) → spot ≡ entry.from → IsChain (entries ++ entry ∷ []) spot new
      chain_here spot same =
          subst (λ (n : ℕ). IsChain (entries ++ entry ∷ []) n new) (sym same)
          (record {
            count = omega (
              arith,
              count,
              old_is.count,
              ap length (from_here entry.from entries entry refl),
              length-append (segments_from entry.from entries) (entry.segment ∷ []),
            );
            last = λ place one.
                record {
                  entry = entry;
                  there_is = ap (λ (n : ℕ). slice_get (entries ++ entry ∷ []) n) last ∙ end_at entries entry;
                  from_is = refl;
                  place_is = omega (arith, one, count, place_is);
                };
          })

      chain_other : (spot : ℕ) (chain : Chain) → (spot ≡ entry.from → ⊥) → IsChain entries spot chain
          → IsChain (entries ++ entry ∷ []) spot chain
      chain_other spot chain apart is =
          record {
            count = is.count ∙ sym (ap length (from_other spot entries entry (λ same. apart (sym same))));
            last = λ place one. entry_more entries entry chain.last spot place (is.last place one);
          }

-- on the way back from the last segment to one at a place: this many are left to pass
pub record IsAbove (entries : List Entry) (there spot place left : ℕ) : Type 0 where
  pub here : ℕ
  pub is_entry : IsEntryAt entries there spot here
  pub is : here ≡ place + left

pub above_last : (entries : List Entry) (chains : List Chain) → AreChained entries chains → (spot : ℕ) (chain : Chain)
    → slice_get chains spot ≡ Some chain → (place : ℕ) → place < length (segments_from spot entries)
    → IsAbove entries chain.last spot place (chain.count - (place + 1))
above_last entries chains are spot chain at place low =
    let is : IsChain entries spot chain = are.chains_are spot chain at in
    let some : chain.count - 1 + 1 ≡ chain.count = omega (arith, is.count, low) in
    record { here = chain.count - 1; is_entry = is.last (chain.count - 1) some; is = omega (arith, is.count, low) }

pub above_before : (entries : List Entry) (chains : List Chain) → AreChained entries chains
    → (there spot place left : ℕ) (entry : Entry) → slice_get entries there ≡ Some entry → 0 < left
    → IsAbove entries there spot place left → IsAbove entries entry.before spot place (left - 1)
above_before entries chains are there spot place left entry at some above =
    let same : above.is_entry.entry ≡ entry = let e : Some above.is_entry.entry ≡ Some entry =
    sym above.is_entry.there_is ∙ at in cc in
    let place_is : entry.place ≡ above.here = ap (λ (e : Entry). e.place) (sym same) ∙ above.is_entry.place_is in
    let from_is : entry.from ≡ spot = ap (λ (e : Entry). e.from) (sym same) ∙ above.is_entry.from_is in
    let one : above.here - 1 + 1 ≡ entry.place = omega (arith, place_is, above.is, some) in
    record {
      here = above.here - 1;
      is_entry = subst (λ (n : ℕ). IsEntryAt entries entry.before n (above.here - 1)) from_is
          ((are.places there entry at).before (above.here - 1) one);
      is = omega (arith, above.is, some);
    }

pub above_it : (entries : List Entry) (chains : List Chain) → AreChained entries chains
    → (there spot place left : ℕ) (entry : Entry) → slice_get entries there ≡ Some entry → left ≡ 0
    → IsAbove entries there spot place left → slice_get (segments_from spot entries) place ≡ Some entry.segment
above_it entries chains are there spot place left entry at none above =
    let same : above.is_entry.entry ≡ entry = let e : Some above.is_entry.entry ≡ Some entry =
    sym above.is_entry.there_is ∙ at in cc in
    let place_is : entry.place ≡ place = ap (λ (e : Entry). e.place) (sym same)
    ∙ (above.is_entry.place_is ∙ omega (arith, above.is, none)) in
    let from_is : entry.from ≡ spot = ap (λ (e : Entry). e.from) (sym same) ∙ above.is_entry.from_is in
    subst (λ (n : ℕ). slice_get (segments_from n entries) place ≡ Some entry.segment) from_is
    (subst (λ (n : ℕ). slice_get (segments_from entry.from entries) n ≡ Some entry.segment) place_is
    (are.places there entry at).segment_is)

pub above_low : (entries : List Entry) (there spot place left : ℕ) → IsAbove entries there spot place left
    → there < length entries
above_low entries there spot place left above = slice_get_within entries there above.is_entry.entry
    above.is_entry.there_is
