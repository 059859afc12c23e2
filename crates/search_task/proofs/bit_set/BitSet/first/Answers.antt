-- The lowest bit of the first word that has one; no word has one.
use Rattle.std.proofs.Common.{◌≡◌, ℕ, Some, get_or, arith}
use Rattle.search_task.proofs.Words.{first_low, first_marked, lowest_of, unmarked}
use Rattle.search_task.proofs.bit_set.BitSet.first.Goals as goal

pub returns-then-self-word-ne0-clause-marked : goal.returns-then-self-word-ne0-clause-marked
returns-then-self-word-ne0-clause-marked g c =
    rw (← c.self.view_is)
    (first_marked g.row.COUNT c.self.inside.words c.loop-word.word c.self.invariant.1 (omega arith)
    c.if-self-word-ne0.true)

pub returns-then-self-word-ne0-clause-low : goal.returns-then-self-word-ne0-clause-low
returns-then-self-word-ne0-clause-low g c border is =
    let here : ℕ = lowest_of c.loop-word.word (get_or c.self.inside.words c.loop-word.word 0) in
    let holds : Some here ≡ Some border = is in
    let same : here ≡ border = cc in
    omega (
      arith,
      same,
      first_low g.row.COUNT c.self.inside.words c.loop-word.word c.self.invariant.1 (omega arith)
          c.if-self-word-ne0.true,
    )

pub returns-clause-marked : goal.returns-clause-marked
returns-clause-marked g c =
    rw (← c.self.view_is)
    (unmarked g.row.COUNT g.row.WORDS c.self.inside.words (omega arith)
    (λ j low. c.loop-word.invariant j (omega arith)))
