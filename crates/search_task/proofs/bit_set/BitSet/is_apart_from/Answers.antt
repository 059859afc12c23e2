-- The words are apart, or one of them is not.
use Rattle.std.proofs.Common.{arith}
use Rattle.search_task.proofs.Words.{apart_words, met_words}
use Rattle.search_task.proofs.bit_set.BitSet.is_apart_from.Goals as goal

pub returns-then-self-word-ne0-clause-meet : goal.returns-then-self-word-ne0-clause-meet
returns-then-self-word-ne0-clause-meet g c none apart =
    met_words g.row.COUNT c.self.inside.words c.other.inside.words c.loop-word.word c.self.invariant.1 (omega arith)
    c.if-self-word-ne0.true (rw (c.self.view_is, c.other.view_is) apart)

pub returns-clause-apart : goal.returns-clause-apart
returns-clause-apart g c holds =
    rw (← c.self.view_is, ← c.other.view_is)
    (apart_words g.row.COUNT g.row.WORDS c.self.inside.words c.other.inside.words (omega arith)
    (λ j low. c.loop-word.invariant j (omega arith)))
