-- The words before the next one are taken away from, the others are as they were.
use Rattle.std.proofs.Common.{◌≡◌, ℕ, ◌<◌, ◌≤◌, get_or, length}
use Rattle.search_task.proofs.Words.{IsWithout}
use Rattle.search_task.proofs.bit_set.BitSet.clear.Given as goal

abbrev pub invariant-loop-word : goal.invariant-loop-word
invariant-loop-word g l =
    (length l.self-inside.words ≡ g.row.WORDS)
    × ((j : ℕ) → j < l.word → IsWithout (get_or l.initial.self-inside.words j 0) (get_or l.other-inside.words j 0)
    (get_or l.self-inside.words j 0))
    × ((j : ℕ) → l.word ≤ j → get_or l.self-inside.words j 0 ≡ get_or l.initial.self-inside.words j 0)
