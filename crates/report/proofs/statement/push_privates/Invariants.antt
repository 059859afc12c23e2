use Rattle.std.proofs.Common.{◌≡◌, ◌++◌, take}
use Rattle.std.specs.List.{flat_map}
use Rattle.report.specs.Statement.{code_owned}
use Rattle.report.proofs.statement.push_privates.Given as goal
use Rattle.tables.specs.Roster.{privates}

-- the privates so far
abbrev pub invariant-loop-private : goal.invariant-loop-private
invariant-loop-private l =
    l.out.items ≡ l.fn.out.items ++ flat_map (λ private. code_owned l.view.events l.seat private)
    (take l.private-index privates)
