-- The words before the next one are joined, the others are as they were.
use Rattle.std.proofs.Common.{◌≡◌, ℕ, ◌<◌, ◌≤◌, get_or, length, bit_or}
use Rattle.search_task.proofs.bit_set.BitSet.with.Given as goal

abbrev pub invariant-loop-word : goal.invariant-loop-word
invariant-loop-word g l =
    (length l.words ≡ g.row.WORDS)
    × ((j : ℕ) → j < l.word → get_or l.words j 0 ≡ bit_or (get_or l.initial.words j 0)
    (get_or l.other-inside.words j 0))
    × ((j : ℕ) → l.word ≤ j → get_or l.words j 0 ≡ get_or l.initial.words j 0)
