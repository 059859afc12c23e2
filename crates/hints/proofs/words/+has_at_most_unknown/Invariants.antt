use Rattle.std.proofs.Common.{length}
use Rattle.hints.proofs.words.+has_at_most_unknown.Given as goal

abbrev pub decreases-has_at_most_unknown : goal.decreases-has_at_most_unknown
decreases-has_at_most_unknown l = length l.words.now
