use Rattle.std.proofs.Common.{◌≡◌, ◌++◌, take}
use Rattle.std.specs.List.{flat_map}
use Rattle.report.specs.Statement.{started_line}
use Rattle.report.proofs.statement.push_companies.Given as goal
use Rattle.tables.specs.Roster.{companies}

-- the companies so far
abbrev pub invariant-loop-company : goal.invariant-loop-company
invariant-loop-company l =
    l.out.items ≡ l.fn.out.items ++ flat_map (λ company. started_line l.sheets l.view company) (take l.company-index companies)
