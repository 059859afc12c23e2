-- The words before the next one have no bit that the other's have not.
use Rattle.std.proofs.Common.{ℕ, ◌<◌, ◌≤◌, get_or}
use Rattle.std.specs.Int.{bit_at}
use Rattle.search_task.proofs.bit_set.BitSet.is_within.Given as goal

abbrev pub invariant-loop-word : goal.invariant-loop-word
invariant-loop-word g l =
    (j bit : ℕ) → j < l.word → bit < 64 → bit_at (get_or l.self-inside.words j 0) bit
    ≤ bit_at (get_or l.other-inside.words j 0) bit
