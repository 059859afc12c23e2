use Rattle.std.proofs.Common.{length}
use Rattle.hints.proofs.words.+is_without_long_number.Given as goal

abbrev pub decreases-is_without_long_number : goal.decreases-is_without_long_number
decreases-is_without_long_number l = length l.words.now
