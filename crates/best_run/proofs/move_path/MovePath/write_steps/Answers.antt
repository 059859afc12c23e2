-- Each step in hand is the last of those that are left.
use Rattle.std.proofs.Common.{◌≡◌, List, [], ◌∷◌, ◌++◌, Iter, refl, sym, ap, ◌∙◌}
use Rattle.std.specs.Iterator.Adapters.{rev_source}
use Rattle.std.specs.Slice.Iter.{iter_rest}
use Rattle.std.specs.declared.iter.Rev.{Rev}
use Rattle.reach.specs.declared.walk.WalkStep.{WalkStep}
use Rattle.best_run.specs.declared.move_path.Mark.{Mark}
use Rattle.best_run.specs.declared.move_path.Mark.TheVariants.{Go}
use Rattle.best_run.specs.MovePath.{IsWritten, go_along, marks_in}
use Rattle.best_run.proofs.move_path.MovePath.write_steps.Goals as goal

-- the mark of the last step is after those of the others
go_last :
    (left rest : List WalkStep) (step : WalkStep) (marks : List Mark) → left ≡ rest ++ (step ∷ [])
    → go_along rest ++ (Go step ∷ marks) ≡ go_along left ++ marks
go_last left rest step marks is = by_rest rest ∙ ap (λ (steps : List WalkStep). go_along steps ++ marks) (sym is)
  where
    by_rest : (steps : List WalkStep) → go_along steps ++ (Go step ∷ marks) ≡ go_along (steps ++ (step ∷ [])) ++ marks
    by_rest [] = refl
    by_rest (other ∷ steps) = ap (λ (all : List Mark). Go other ∷ all) (by_rest steps)

pub loop-step-init : goal.loop-step-init
loop-step-init c =
    let left : iter_rest (rev_source c.into_iter-step-iterator.result) ≡ c.args.steps.now =
    ap (λ (steps : Rev (Iter WalkStep)). iter_rest (rev_source steps)) c.into_iter-step-iterator.ensures.into_iter_gives
    ∙ ap iter_rest c.rev-step-items.ensures.source ∙ c.iter.ensures.rest in
    (tt, tt, λ none. none, λ none. ap (λ (steps : List WalkStep). go_along steps ++ marks_in c.args.self.now) left)

pub loop-step-preserved : goal.loop-step-preserved
loop-step-preserved c =
    let move_path = c.loop-step.self in
    let new = c.write.new.self in
    let written : IsWritten (Go _ ∷ []) move_path new = c.write.ensures in (
      tt,
      tt,
      λ none. c.loop-step.invariant.2 (written.refused none),
      λ none. ap (λ (marks : List Mark). go_along (iter_rest (rev_source c.next.new.self)) ++ marks)
          (written.marks_are none)
          ∙ go_last _ _ _ (marks_in move_path) c.in-Some.ensures.steps
          ∙ c.loop-step.invariant.3 (written.refused none),
    )
