-- This many segments are left to pass on the way back.
use Rattle.std.proofs.Common.{◌-◌}
use Rattle.search_task.proofs.Chained.{IsAbove}
use Rattle.search_task.proofs.segments.Segments.at.Given as goal

abbrev pub invariant-loop-next : goal.invariant-loop-next
invariant-loop-next l = IsAbove l.self-inside.entries.items l.entry l.fn.spot l.place (l.next-end - l.next)
