-- A rule that is found among rows is found among all rules, where each has a row.
use Rattle.std.proofs.Common.{refl, ◌≡◌, ℕ, Bool, true, false, All, List, [], ◌∷◌, map, MatchOption, Option, Some, None}
use Rattle.std.proofs.Common.{subst, sym, if◌then◌else◌}
use Rattle.std.proofs.lemmas.List.Elements.{All-head, All-tail}
use Rattle.std.specs.Cmp.Lexicographic.{pointwise, same_text}
use Rattle.std.specs.Prelude.{nat_eq}
use Rattle.tables.specs.RuleTexts.{HasCode, HasNotCode, ListsEachRule, is_among}
use Rattle.tables.specs.declared.rule_table.RuleRow.{RuleRow}

-- what holds of the code of each row holds of a code among them
of_listed : {Family : Type 0} (P : List ℕ → Type 0) (code_of : Family → List ℕ) (code : List ℕ)
    (rows : List (RuleRow Family)) → is_among code (map (λ row. code_of row.rule) rows) ≡ true
    → All (λ row. P (code_of row.rule)) rows → P code
of_listed P code_of code [] among all = cc
of_listed P code_of code (row ∷ rows) among all =
    elim (pointwise nat_eq code (code_of row.rule)) as (λ (same : Bool). same ≡ pointwise nat_eq code (code_of row.rule)
    → (if same then true else is_among code (map (λ row. code_of row.rule) rows)) ≡ true → P code) [
      | true ↦
          λ same _.
          subst P (sym (same_text code (code_of row.rule) same)) (All-head (λ row. P (code_of row.rule)) row rows all)
      | false ↦
          λ _ among. of_listed P code_of code rows among (All-tail (λ row. P (code_of row.rule)) row rows all)
    ]
    refl among

-- what is found among rows that list each rule is found among all rules
pub among_all : {Family : Type 0} (code_of : Family → List ℕ) (word : List ℕ) (rows : List (RuleRow Family))
    (found : Option Family) → ListsEachRule code_of rows
    → MatchOption found (All (λ row. HasNotCode word (code_of row.rule)) rows) (λ rule. HasCode word (code_of rule))
    → MatchOption found ((rule : Family) → HasNotCode word (code_of rule)) (λ rule. HasCode word (code_of rule))
among_all code_of word rows None listed none =
    λ rule. of_listed (HasNotCode word) code_of (code_of rule) rows (listed rule) none
among_all code_of word rows (Some rule) listed some = some
