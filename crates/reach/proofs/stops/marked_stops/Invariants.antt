-- The stops of the hexes before the next one are in order, those that are marked; two of a hex at
-- most.
use Rattle.std.proofs.Common.{◌*◌, ◌≤◌, length}
use Rattle.reach.proofs.Collected.{StopsBefore}
use Rattle.reach.proofs.stops.marked_stops.Given as goal

abbrev pub invariant-loop-index : goal.invariant-loop-index
invariant-loop-index l = record {
  stops : StopsBefore l.marks.marks l.stops (2 * l.index);
  few : length l.stops
      ≤ 2 * l.index;
}
