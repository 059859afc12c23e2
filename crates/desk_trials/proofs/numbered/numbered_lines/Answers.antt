use Rattle.std.proofs.Common.{ℕ, ◌∷◌, List, rules, sym, ap, ◌∙◌}
use Rattle.desk_trials.proofs.NumberedLemmas.{all_at_end, all_left, behind_blank, behind_written}
use Rattle.desk_trials.specs.Numbered.{ends_numbered}
use Rattle.sheets.specs.Text.{lines_of}
use Rattle.desk_trials.proofs.numbered.numbered_lines.Goals as goal

pub returns-then-ends_numbered : goal.returns-then-ends_numbered
returns-then-ends_numbered c =
    all_at_end _ _ _ _ c.in-Some.line.text.now _ _ c.loop-line.invariant.2 c.in-Some.ensures.steps.text
    (ap (λ (n : ℕ). ends_numbered n c.in-Some.line.text.now) (sym c.len.ensures) ∙ sym c.ends_numbered.ensures
    ∙ c.if-ends_numbered.true)

pub loop-line-preserved-in-Continue-1 : goal.loop-line-preserved-in-Continue-1
loop-line-preserved-in-Continue-1 c = (
  search rules,
  search rules,
  behind_written _ c.loop-line.numbered.items _ c.in-Some.line _ _ _ _ _ _ c.loop-line.invariant.2
      (c.in-Some.ensures.steps.text
      ∙ ap (λ (rest : List ℕ). c.in-Some.line.text.now ∷ lines_of rest) (sym c.in-Some.ensures.steps.left))
      (ap (λ (n : ℕ). ends_numbered n c.in-Some.line.text.now) (sym c.len.ensures) ∙ sym c.ends_numbered.ensures
      ∙ c.if-ends_numbered.false) (sym c.is_blank.ensures ∙ c.if-not-is_blank.true)
      c.in-Some.ensures.steps.number c.in-Some.ensures.steps.passed c.in_ok-push.ensures.items
      c.in_ok-push.ensures.len,
)

pub loop-line-preserved : goal.loop-line-preserved
loop-line-preserved c = (
  search rules,
  search rules,
  behind_blank _ _ _ _ c.in-Some.line.number _ c.in-Some.line.text.now _ _ c.loop-line.invariant.2
      (c.in-Some.ensures.steps.text
      ∙ ap (λ (rest : List ℕ). c.in-Some.line.text.now ∷ lines_of rest) (sym c.in-Some.ensures.steps.left))
      (ap (λ (n : ℕ). ends_numbered n c.in-Some.line.text.now) (sym c.len.ensures) ∙ sym c.ends_numbered.ensures
      ∙ c.if-ends_numbered.false) (sym c.is_blank.ensures ∙ c.if-not-is_blank.false)
      c.in-Some.ensures.steps.number c.in-Some.ensures.steps.passed,
)

pub returns : goal.returns
returns c = all_left _ _ _ _ _ c.loop-line.invariant.2 (ap lines_of c.in-None.ensures.steps.0)
