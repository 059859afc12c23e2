use Rattle.std.proofs.Common.{◌≤◌, length}
use Rattle.page_map.proofs.news.of_last_round.Given as goal

-- the events from here on are of the last round
abbrev pub invariant-loop-from : goal.invariant-loop-from
invariant-loop-from l = l.from ≤ length l.events

abbrev pub decreases-loop-from : goal.decreases-loop-from
decreases-loop-from l = l.from
