use Rattle.std.proofs.Common.{length}
use Rattle.hints.proofs.slips.+is_slip_of.Given as goal

abbrev pub decreases-is_slip_of : goal.decreases-is_slip_of
decreases-is_slip_of l = length l.word.now
