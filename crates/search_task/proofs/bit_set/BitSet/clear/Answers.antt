-- All words are taken away from.
use Rattle.std.proofs.Common.{refl, length-set, get_or-set_other, ◌∙◌, arith}
use Rattle.search_task.proofs.Words.{taken_away, taken_none, without_more}
use Rattle.search_task.proofs.bit_set.BitSet.clear.Goals as goal

pub loop-word-init : goal.loop-word-init
loop-word-init g c = (c.self.told, λ j low. absurd (omega arith), λ j high. refl)

pub loop-word-preserved : goal.loop-word-preserved
loop-word-preserved g c =
    let words = c.loop-word.self-inside.words in
    let k = c.loop-word.word in
    let value = c.without.result in (
      length-set words k value ∙ c.loop-word.invariant.0,
      without_more c.self.inside.words c.other.inside.words words k value (omega (arith, c.loop-word.invariant.0))
          c.without.ensures c.loop-word.invariant.1 c.loop-word.invariant.2,
      λ j high. get_or-set_other words k j value 0 (λ same. absurd (omega arith))
          ∙ c.loop-word.invariant.2 j (omega arith),
    )

pub invariant_of-self : goal.invariant_of-self
invariant_of-self g c = (
  c.self.invariant.0,
  taken_none g.row.COUNT g.row.WORDS c.self.inside.words c.other.inside.words c.loop-word.self-inside.words
      c.loop-word.invariant.0 (λ j low. c.loop-word.invariant.1 j (omega arith)) c.self.invariant.1,
)

pub returns : goal.returns
returns g c =
    rw (← c.self.view_is, ← c.other.view_is)
    (taken_away g.row.COUNT g.row.WORDS c.self.inside.words c.other.inside.words c.loop-word.self-inside.words
    (omega arith)
    (λ j low. c.loop-word.invariant.1 j (omega arith)))
