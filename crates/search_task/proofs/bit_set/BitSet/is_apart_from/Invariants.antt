-- The words before the next one are apart.
use Rattle.std.proofs.Common.{◌≡◌, ℕ, ◌<◌, get_or, bit_and}
use Rattle.search_task.proofs.bit_set.BitSet.is_apart_from.Given as goal

abbrev pub invariant-loop-word : goal.invariant-loop-word
invariant-loop-word g l =
    (j : ℕ) → j < l.word → bit_and (get_or l.self-inside.words j 0) (get_or l.other-inside.words j 0) ≡ 0
