-- A table of rules: for each, a code and whether it is broken. The first rule that is broken gives
-- the code.
use Rattle.std.specs.Prelude.{◌≡◌, ◌⊎◌, Bool, true, false, Option, Some, None, List, [], ◌∷◌, if◌then◌else◌}

-- a rule of a table: its code, and whether the order breaks it
pub record Rule (Code : Type 0) : Type 0 where
  pub code : Code
  pub broken : Bool

-- the code of the first rule that is broken
abbrev pub first_broken : {Code : Type 0} → List (Rule Code) → Option Code
first_broken [] = None
first_broken (rule ∷ rules) = if rule.broken then Some rule.code else first_broken rules

-- each rule of a table is kept
abbrev pub AreKept : {Code : Type 0} → List (Rule Code) → Type 0
AreKept [] = Unit {0}
AreKept (rule ∷ rules) = (rule.broken ≡ false) × AreKept rules

-- a rule with this code is broken, and each before it is kept
abbrev pub BreaksFirst : {Code : Type 0} → Code → List (Rule Code) → Type 0
BreaksFirst code [] = ⊥
BreaksFirst code (rule ∷ rules) = ((rule.broken ≡ true) × (rule.code ≡ code))
    ⊎ ((rule.broken ≡ false) × BreaksFirst code rules)

-- if no rule of a table is broken, each is kept
abbrev pub KeptWhereNoneIsBroken : Type 0 → Type 0
KeptWhereNoneIsBroken Code = (rules : List (Rule Code)) → first_broken rules ≡ None → AreKept rules

-- the code that a table gives is that of a rule that is broken while each before it is kept
abbrev pub FirstOfThoseBroken : Type 0 → Type 0
FirstOfThoseBroken Code = (code : Code) (rules : List (Rule Code)) → first_broken rules ≡ Some code
    → BreaksFirst code rules
