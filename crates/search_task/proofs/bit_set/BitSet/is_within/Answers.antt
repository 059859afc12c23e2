-- The next word has none either; no word has.
use Rattle.std.proofs.Common.{◌≤◌, ℕ, inl, inr, get_or, subst, sym, arith}
use Rattle.std.specs.Int.{bit_at}
use Rattle.search_task.proofs.Places.{below_next}
use Rattle.search_task.proofs.Words.{IsWithout, none_without, within_words}
use Rattle.search_task.proofs.bit_set.BitSet.is_within.Goals as goal

pub loop-word-preserved : goal.loop-word-preserved
loop-word-preserved g c j bit low small =
    let a = c.self.inside.words in
    let b = c.other.inside.words in
    let k = c.loop-word.word in
    elim (below_next j k low) [
      | inl less ↦ c.loop-word.invariant j bit less small
      | inr same ↦
          subst (λ (i : ℕ). bit_at (get_or a i 0) bit ≤ bit_at (get_or b i 0) bit) (sym same)
          (none_without (get_or a k 0) (get_or b k 0) (subst
          (λ (left : ℕ). IsWithout (get_or a k 0) (get_or b k 0) left) c.if-without-ne0.false c.without.ensures)
          bit small)
    ]

pub returns : goal.returns
returns g c holds =
    rw (← c.self.view_is, ← c.other.view_is)
    (within_words g.row.COUNT g.row.WORDS c.self.inside.words c.other.inside.words (omega arith)
    (λ j bit low small. c.loop-word.invariant j bit (omega arith) small))
