-- The rules of a table that are broken, in its order. A report names the first of them alone.
use Rattle.std.specs.Prelude.{Bool, ◌&&◌, if◌then◌else◌, List, [], ◌∷◌}
use Rattle.std.specs.List.{flat_map}
use Rattle.desk_map_rules.specs.declared.row.Row.{Row}
use Rattle.events.specs.declared.ruling.Refusal.{Refusal}
use Rattle.tables.specs.Rules.{Rule}

-- the rule of a row, if it is broken
abbrev pub row_rule : Row → List Refusal
row_rule row = if row.is_broken then row.rule ∷ [] else []

-- those of some rows
abbrev pub rules_of : List Row → List Refusal
rules_of rows = flat_map row_rule rows

-- a row of a table of rules as one that is asked: a rule that is not asked is not told
abbrev pub row_of : {Code : Type 0} → (Code → Bool) → (Code → Refusal) → Rule Code → Row
row_of asked told rule = record { rule = told rule.code; is_broken = asked rule.code && rule.broken }

-- the rules of a table that are asked and broken
abbrev pub broken_of : {Code : Type 0} → (Code → Bool) → (Code → Refusal) → List (Rule Code) → List Refusal
broken_of asked told rules = flat_map (λ rule. row_rule (row_of asked told rule)) rules
