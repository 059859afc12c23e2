-- The stops of a hex come after those of the hexes before it.
use Rattle.std.proofs.Common.{arith}
use Rattle.reach.proofs.Collected.{stops_added}
use Rattle.reach.proofs.stops.marked_stops.Goals as goal

pub loop-index-preserved : goal.loop-index-preserved
loop-index-preserved c =
    record {
      stops = stops_added c.args.marks.now.marks _ c.at_index-hex.result c.loop-index.index c.at_index-hex.ensures
          c.loop-index.invariant.stops _ c.push_marked.ensures.pushed _ c.push_marked-in-loop-index.ensures.pushed;
      few = omega (
        arith,
        c.push_marked.ensures.few,
        c.push_marked-in-loop-index.ensures.few,
        c.loop-index.invariant.few,
      );
    }
