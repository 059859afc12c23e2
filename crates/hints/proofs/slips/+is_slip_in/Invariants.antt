use Rattle.std.proofs.Common.{length}
use Rattle.hints.proofs.slips.+is_slip_in.Given as goal

abbrev pub decreases-is_slip_in : goal.decreases-is_slip_in
decreases-is_slip_in l = length l.codes.now
