-- A table of rules in two parts.
use Rattle.std.proofs.Common.{◌≡◌, refl, true, false, cond, List, [], ◌∷◌, ◌++◌, Some, None}
use Rattle.tables.specs.Rules.{Rule, first_broken}

-- a rule of the first part that is broken is the first of both
pub earlier : {Code : Type 0} (rules later : List (Rule Code)) (code : Code) → first_broken rules ≡ Some code
    → first_broken (rules ++ later) ≡ Some code
earlier [] later code e = cc
earlier (rule ∷ rules) later code e =
    (elim rule.broken as (λ b. cond b (Some rule.code) (first_broken rules) ≡ Some code
    → cond b (Some rule.code) (first_broken (rules ++ later)) ≡ Some code) [
      | true ↦ λ here. here
      | false ↦ λ more. earlier rules later code more
    ]) e

-- where the first part is kept, the first of the second part
pub kept : {Code : Type 0} (rules later : List (Rule Code)) → first_broken rules ≡ None
    → first_broken (rules ++ later) ≡ first_broken later
kept [] later e = refl
kept (rule ∷ rules) later e =
    (elim rule.broken as (λ b. cond b (Some rule.code) (first_broken rules) ≡ None
    → cond b (Some rule.code) (first_broken (rules ++ later)) ≡ first_broken later) [
      | true ↦ λ here. cc
      | false ↦ λ more. kept rules later more
    ]) e
