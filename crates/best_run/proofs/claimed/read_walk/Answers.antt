-- Where the run turns back, the steps so far are turned about.
use Rattle.std.proofs.Common.{◌≡◌, ℕ, List, ◌∷◌, ◌++◌, length, drop, reverse, take, sym, ap, ◌∙◌, arith}
use Rattle.std.proofs.Math.Seq.{take-length}
use Rattle.std.proofs.lemmas.List.{take-append-le}
use Rattle.reach.specs.declared.walk.WalkStep.{WalkStep}
use Rattle.best_run.specs.declared.move_path.Mark.{Mark}
use Rattle.best_run.specs.declared.move_path.Mark.TheVariants.{Turn}
use Rattle.best_run.specs.MovePath.{after_walk, turned_about, walk_of_marks}
use Rattle.best_run.proofs.ReadPath.{about_reversed, last_read}
use Rattle.best_run.proofs.claimed.read_walk.Goals as goal

-- what is written to all items of a vector is there
all_written : (new old : List WalkStep) (n : ℕ) → n ≡ length new → take n (new ++ drop (length new) old) ≡ new
all_written new old n all =
    take-append-le n new (drop (length new) old) (omega (arith, all))
    ∙ (ap (λ (m : ℕ). take m new) all ∙ take-length new)

pub loop-mark-preserved : goal.loop-mark-preserved
loop-mark-preserved c =
    let walk : List WalkStep = c.loop-mark.walk.items in
    let turned : List WalkStep = c.turn_about.new.walk in
    let rest : List Mark = reverse c.pop.new.self.items in
    let read : reverse c.loop-mark.marks.items ≡ Turn ∷ rest =
    last_read c.loop-mark.marks.items c.pop.new.self.items c.in-Some.mark c.in-Some.ensures.items
    ∙ ap (λ (m : Mark). m ∷ rest) c.in-Turn.is in
    let about : reverse turned ≡ turned_about (reverse walk) =
    ap reverse (c.turn_about.ensures ∙ ap turned_about c.deref_mut.ensures.value) ∙ about_reversed walk in (
      ap (λ (steps : List WalkStep). walk_of_marks (reverse steps) rest)
          (all_written turned walk c.loop-mark.walk.len (omega arith))
          ∙ ap (λ (steps : List WalkStep). walk_of_marks steps rest) about
          ∙ ap (λ (marks : List Mark). walk_of_marks (reverse walk) marks) (sym read)
          ∙ c.loop-mark.invariant.0,
      ap after_walk (sym read) ∙ c.loop-mark.invariant.1,
    )
