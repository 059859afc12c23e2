-- The words before the next one have no bit.
use Rattle.std.proofs.Common.{◌≡◌, ℕ, ◌<◌, get_or}
use Rattle.search_task.proofs.bit_set.BitSet.first.Given as goal

abbrev pub invariant-loop-word : goal.invariant-loop-word
invariant-loop-word g l = (j : ℕ) → j < l.word → get_or l.self-inside.words j 0 ≡ 0
