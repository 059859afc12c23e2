-- What the first broken rule of a table says of its rules.
use Rattle.std.proofs.Common.{◌≡◌, ℕ, ◌==◌, Bool, true, false, ◌&&◌, ◌||◌, if◌then◌else◌, Some, None, List}
use Rattle.std.proofs.Common.{[], ◌∷◌, inl, inr}
use Rattle.std.proofs.Common.{refl}
use Rattle.std.proofs.lemmas.Bool.{eq-eqb}
use Rattle.std.proofs.Math.Bool.{and-false}
use Rattle.tables.specs.Rules.{Rule, first_broken, AreKept, BreaksFirst}

-- where no rule is broken, each is kept
pub none_broken : {Code : Type 0} (rules : List (Rule Code)) → first_broken rules ≡ None → AreKept rules
none_broken [] none = tt
none_broken (rule ∷ rules) none =
    elim rule.broken as (λ (b : Bool). rule.broken ≡ b → (if b then Some rule.code else first_broken rules) ≡ None
    → AreKept (rule ∷ rules)) [
      | true ↦ λ broken none. cc
      | false ↦ λ kept none. (kept, none_broken rules none)
    ]
    refl none

-- the first broken rule is broken, and each before it is kept
pub breaks_first : {Code : Type 0} (code : Code) (rules : List (Rule Code)) → first_broken rules ≡ Some code
    → BreaksFirst code rules
breaks_first code [] first = cc
breaks_first code (rule ∷ rules) first =
    elim rule.broken as (λ (b : Bool). rule.broken ≡ b
    → (if b then Some rule.code else first_broken rules) ≡ Some code → BreaksFirst code (rule ∷ rules)) [
      | true ↦ λ broken first. inl (broken, cc)
      | false ↦ λ kept first. inr (kept, breaks_first code rules first)
    ]
    refl first

-- two codes are printed alike
abbrev are_alike : List ℕ → List ℕ → Bool
are_alike [] [] = true
are_alike (first ∷ rest) (other ∷ others) = first == other && are_alike rest others
are_alike one another = false

-- the rule with this code is broken; false if the table has no such row
abbrev pub is_broken : {Code : Type 0} → (Code → List ℕ) → List (Rule Code) → Code → Bool
is_broken printed [] code = false
is_broken printed (rule ∷ rules) code =
    if are_alike (printed rule.code) (printed code) then rule.broken else is_broken printed rules code

-- the rule with a code is kept where each rule is: so a proof names the row that it uses
pub row_kept : {Code : Type 0} (printed : Code → List ℕ) (rules : List (Rule Code)) → AreKept rules → (code : Code)
    → is_broken printed rules code ≡ false
row_kept printed [] kept code = refl
row_kept printed (rule ∷ rules) kept code =
    elim (are_alike (printed rule.code) (printed code)) as (λ (same : Bool).
    (if same then rule.broken else is_broken printed rules code) ≡ false) [
      | true ↦ kept.0
      | false ↦ row_kept printed rules kept.1 code
    ]

-- where no rule of a table is broken, the rule with a code is kept
pub not_broken : {Code : Type 0} (printed : Code → List ℕ) (rules : List (Rule Code)) → first_broken rules ≡ None
    → (code : Code) → is_broken printed rules code ≡ false
not_broken printed rules none = row_kept printed rules (none_broken rules none)

-- some rule with this code is broken
abbrev pub is_some_broken : {Code : Type 0} → (Code → List ℕ) → List (Rule Code) → Code → Bool
is_some_broken printed [] code = false
is_some_broken printed (rule ∷ rules) code =
    (are_alike (printed rule.code) (printed code) && rule.broken) || is_some_broken printed rules code

kept_with_code : {Code : Type 0} (printed : Code → List ℕ) (rules : List (Rule Code)) → AreKept rules → (code : Code)
    → is_some_broken printed rules code ≡ false
kept_with_code printed [] kept code = refl
kept_with_code printed (rule ∷ rules) kept code =
    rw (kept.0)
    (rw (and-false (are_alike (printed rule.code) (printed code))) (kept_with_code printed rules kept.1 code))

-- where no rule of a table is broken, none with a code is
pub none_with_code : {Code : Type 0} (printed : Code → List ℕ) (rules : List (Rule Code)) → first_broken rules ≡ None
    → (code : Code) → is_some_broken printed rules code ≡ false
none_with_code printed rules none = kept_with_code printed rules (none_broken rules none)

printed_alike : (code : List ℕ) → are_alike code code ≡ true
printed_alike [] = refl
printed_alike (byte ∷ bytes) = rw (eq-eqb byte byte refl) (printed_alike bytes)

kept_here : (alike broken later : Bool) → alike ≡ true → ((alike && broken) || later) ≡ false → broken ≡ false
kept_here true true later same none = absurd cc
kept_here true false later same none = refl
kept_here false broken later same none = absurd cc

none_later : (here later : Bool) → (here || later) ≡ false → later ≡ false
none_later true later none = absurd cc
none_later false later none = none

-- no rule of a table is broken where none with any code is: so a proof that carries one table over
-- to another names the rows in which they differ
pub none_of_each : {Code : Type 0} (printed : Code → List ℕ) (rules : List (Rule Code))
    → ((code : Code) → is_some_broken printed rules code ≡ false) → first_broken rules ≡ None
none_of_each printed [] each = refl
none_of_each printed (rule ∷ rules) each =
    let here : rule.broken ≡ false =
    kept_here (are_alike (printed rule.code) (printed rule.code)) rule.broken
    (is_some_broken printed rules rule.code) (printed_alike (printed rule.code)) (each rule.code) in
    rw here (none_of_each printed rules (λ code.
    none_later (are_alike (printed rule.code) (printed code) && rule.broken) (is_some_broken printed rules code)
    (each code)))
