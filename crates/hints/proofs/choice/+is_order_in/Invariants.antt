use Rattle.std.proofs.Common.{length}
use Rattle.hints.proofs.choice.+is_order_in.Given as goal

abbrev pub decreases-is_order_in : goal.decreases-is_order_in
decreases-is_order_in l = length l.lines.now
