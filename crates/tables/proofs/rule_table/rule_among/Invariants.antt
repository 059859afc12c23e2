use Rattle.std.proofs.Common.{All, take}
use Rattle.tables.specs.RuleTexts.{HasNotCode}
use Rattle.tables.proofs.rule_table.rule_among.Given as goal

-- no row so far has the code
abbrev pub invariant-loop-row : goal.invariant-loop-row
invariant-loop-row g l =
    All (λ row. HasNotCode l.code (g.R.Printed.code_of row.rule)) (take l.row-index l.rows)
