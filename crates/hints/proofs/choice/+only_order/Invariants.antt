use Rattle.std.proofs.Common.{length}
use Rattle.hints.proofs.choice.+only_order.Given as goal

abbrev pub decreases-only_order : goal.decreases-only_order
decreases-only_order l = length l.lines.now
