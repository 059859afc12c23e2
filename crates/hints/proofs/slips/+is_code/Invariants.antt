use Rattle.std.proofs.Common.{length}
use Rattle.hints.proofs.slips.+is_code.Given as goal

abbrev pub decreases-is_code : goal.decreases-is_code
decreases-is_code l = length l.codes.now
