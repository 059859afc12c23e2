-- The first of them have been brought, and the others are as they were.
use Rattle.std.proofs.Common.{◌≡◌, ◌-◌, length}
use Rattle.totals.specs.Operating.{tokens_of}
use Rattle.operating.specs.MapState.{BeginsWith}
use Rattle.operating.proofs.map_state.put_tokens.Given as goal

abbrev pub invariant-loop-place : goal.invariant-loop-place
invariant-loop-place l =
    record {
      begins : BeginsWith l.board.tokens (tokens_of l.history.events);
      others : l.board.lays ≡ l.fn.board.lays;
    }

abbrev pub decreases-loop-place : goal.decreases-loop-place
decreases-loop-place l = length (tokens_of l.history.events) - length l.board.tokens
