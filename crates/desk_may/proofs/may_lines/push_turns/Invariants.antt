-- the companies so far have had their turns, with the lines so far
use Rattle.std.proofs.Common.{◌≡◌, ℕ, ◌-◌, ◌≤◌, List, ◌++◌}
use Rattle.desk_may.specs.OperatingLines.{HaveTurnsWritten}
use Rattle.desk_may.proofs.may_lines.push_turns.Given as goal

abbrev pub invariant-loop-turns : goal.invariant-loop-turns
invariant-loop-turns l =
    (lines : List ℕ) × HaveTurnsWritten l.presidents l.seat l.turns l.fn.opened l.ahead lines
    × (l.out.items ≡ l.fn.out.items ++ lines) × (l.turns ≤ 8)

abbrev pub decreases-loop-turns : goal.decreases-loop-turns
decreases-loop-turns l = 8 - l.turns
