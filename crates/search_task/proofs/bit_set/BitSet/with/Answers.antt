-- All words are joined.
use Rattle.std.proofs.Common.{arith}
use Rattle.search_task.proofs.Words.{joined, joined_none}
use Rattle.search_task.proofs.bit_set.BitSet.with.Goals as goal

pub invariant_of-result : goal.invariant_of-result
invariant_of-result g c = (
  c.self.invariant.0,
  joined_none g.row.COUNT g.row.WORDS c.self.inside.words c.other.inside.words c.loop-word.words
      c.loop-word.invariant.0 (λ j low. c.loop-word.invariant.1 j (omega arith)) c.self.invariant.1 c.other.invariant.1,
)

pub returns : goal.returns
returns g c =
    rw (← c.self.view_is, ← c.other.view_is)
    (joined g.row.COUNT g.row.WORDS c.self.inside.words c.other.inside.words c.loop-word.words (omega arith)
    (λ j low. c.loop-word.invariant.1 j (omega arith)))
