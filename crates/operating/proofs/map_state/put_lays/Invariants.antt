-- The first of them have been brought, and the others are as they were.
use Rattle.std.proofs.Common.{◌≡◌, ◌-◌, length}
use Rattle.totals.specs.Operating.{lays_of}
use Rattle.operating.specs.MapState.{BeginsWith}
use Rattle.operating.proofs.map_state.put_lays.Given as goal

abbrev pub invariant-loop-lay : goal.invariant-loop-lay
invariant-loop-lay l =
    record {
      begins : BeginsWith l.board.lays (lays_of l.history.events);
      others : l.board.tokens ≡ l.fn.board.tokens;
    }

abbrev pub decreases-loop-lay : goal.decreases-loop-lay
decreases-loop-lay l = length (lays_of l.history.events) - length l.board.lays
