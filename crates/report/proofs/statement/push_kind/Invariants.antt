use Rattle.std.proofs.Common.{◌≡◌, ◌++◌}
use Rattle.report.specs.Statement.{codes_of_kind}
use Rattle.report.proofs.statement.push_kind.Given as goal

-- the trains so far
abbrev pub invariant-loop : goal.invariant-loop
invariant-loop l = l.out.items ≡ l.fn.out.items ++ codes_of_kind l.kind l.counter
