-- The tests of tokens and of full cities are exact.
use Rattle.std.proofs.Common.{◌≡◌, ◌↔◌, ℕ, ◌<◌, ◌≤◌, Bool, true, false, ◌&&◌, not, ltb, List, length, refl, sym, arith}
use Rattle.std.proofs.lemmas.Bool.{lt-ltb, ltb-false, ltb-true, not-true}
use Rattle.map_tables.specs.declared.place.Stop.{Stop}
use Rattle.reach.specs.Position.{Position, HasToken, IsFull, at_stop}
use Rattle.reach.proofs.Lists.{among_found, found_among}
use Rattle.tables.proofs.Companies.{company_is, company_is_same}
use Rattle.tables.specs.Roster.{same_company}
use Rattle.tables.specs.declared.roster.Company.{Company}
use Rattle.legal_runs.specs.Fault.{has_token_at_stop, is_full}

-- two tests of one fact agree
pub tests_agree : {P : Type 0} (a b : Bool) → (a ≡ true) ↔ P → (b ≡ true) ↔ P → a ≡ b
tests_agree true true first second = refl
tests_agree false false first second = refl
tests_agree true false first second = sym (second.1 (first.0 refl))
tests_agree false true first second = first.1 (second.0 refl)

-- the test of a token is exact
pub has_token_is : (position : Position) (company : Company) (stop : Stop)
    → (has_token_at_stop position company stop ≡ true) ↔ HasToken position stop company
has_token_is position company stop = (
  among_found same_company company_is (at_stop position stop).tokens company,
  found_among same_company company_is_same (at_stop position stop).tokens company,
)

pub three : (a b c : Bool) → (a && (b && c)) ≡ true → (a ≡ true) × (b ≡ true) × (c ≡ true)
three true true true h = (refl, refl, refl)
three false b c h = cc
three true false c h = cc
three true true false h = cc

pub all_three : (a b c : Bool) → a ≡ true → b ≡ true → c ≡ true → (a && (b && c)) ≡ true
all_three a b c first second third = rw (first, second) third

pub not_both : (b : Bool) → not b ≡ true → b ≡ true → ⊥
not_both true h is = cc
not_both false h is = cc

pub to_not : (b : Bool) → (b ≡ true → ⊥) → not b ≡ true
to_not true h = absurd (h refl)
to_not false h = refl

less_not : (m n : ℕ) → n ≤ m → ltb m n ≡ true → ⊥
less_not m n le less = let lt : m < n = ltb-true m n less in omega arith

-- the test of a full city is exact
pub is_full_is : (position : Position) (company : Company) (stop : Stop)
    → (is_full position company stop ≡ true) ↔ IsFull position stop company
is_full_is position company stop =
    let slots : ℕ = (at_stop position stop).slots in
    let tokens : List Company = (at_stop position stop).tokens in
    let own : Bool = has_token_at_stop position company stop in (
      λ h.
          let parts : (ltb 0 slots ≡ true) × (not (ltb (length tokens) slots) ≡ true) × (not own ≡ true) =
          three (ltb 0 slots) (not (ltb (length tokens) slots)) (not own) h in
          record {
            is_city = ltb-true 0 slots parts.0;
            all_taken = ltb-false (length tokens) slots (not-true (ltb (length tokens) slots) parts.1);
            by_others = λ has. not_both own parts.2 ((has_token_is position company stop).1 has);
          },
      λ full.
          all_three (ltb 0 slots) (not (ltb (length tokens) slots)) (not own)
          (lt-ltb 0 slots full.is_city)
          (to_not (ltb (length tokens) slots) (less_not (length tokens) slots full.all_taken))
          (to_not own (λ has. full.by_others ((has_token_is position company stop).0 has))),
    )
