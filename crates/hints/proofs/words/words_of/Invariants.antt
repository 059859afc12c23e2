use Rattle.std.proofs.Common.{◌≤◌}
use Rattle.hints.proofs.words.words_of.Given as goal

-- each word has a byte of its own
abbrev pub invariant-loop-at : goal.invariant-loop-at
invariant-loop-at l = l.count ≤ l.at
