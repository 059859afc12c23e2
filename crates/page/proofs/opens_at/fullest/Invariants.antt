-- the place is a part
use Rattle.std.proofs.Common.{◌<◌}
use Rattle.page.proofs.opens_at.fullest.Given as goal

abbrev pub invariant-loop-part : goal.invariant-loop-part
invariant-loop-part l = l.place < 10
