-- What a report and the desk say of a rule that is broken.
use Rattle.std.specs.Prelude.{◌≡◌, ◌≢◌, ℕ, Bool, true, false, List, [], ◌∷◌, if◌then◌else◌, map, nat_eq}
use Rattle.std.specs.Cmp.Lexicographic.{pointwise}
use Rattle.std.specs.Str.{str_to_ascii_lowercase}
use Rattle.tables.specs.declared.rule_table.RuleRow.{RuleRow}

-- whether a word is the code, in letters of either case
abbrev pub HasCode : List ℕ → List ℕ → Type 0
HasCode word code = str_to_ascii_lowercase code ≡ str_to_ascii_lowercase word

-- whether it is not
abbrev pub HasNotCode : List ℕ → List ℕ → Type 0
HasNotCode word code = str_to_ascii_lowercase code ≢ str_to_ascii_lowercase word

-- whether a code is among some codes
abbrev pub is_among : List ℕ → List (List ℕ) → Bool
is_among code [] = false
is_among code (other ∷ others) = if pointwise nat_eq code other then true else is_among code others

-- each rule of a family has a row
abbrev pub ListsEachRule : {Family : Type 0} → (Family → List ℕ) → List (RuleRow Family) → Type 0
ListsEachRule {Family = Family} code_of rows =
    (rule : Family) → is_among (code_of rule) (map (λ row. code_of row.rule) rows) ≡ true
