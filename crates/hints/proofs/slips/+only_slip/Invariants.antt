use Rattle.std.proofs.Common.{length}
use Rattle.hints.proofs.slips.+only_slip.Given as goal

abbrev pub decreases-only_slip : goal.decreases-only_slip
decreases-only_slip l = length l.codes.now
