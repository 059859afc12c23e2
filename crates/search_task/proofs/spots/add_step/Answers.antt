-- The segment is added at the code of its step.
use Rattle.std.proofs.Common.{◌≡◌, ◌<◌, ℕ, subst, ◌∙◌, arith}
use Rattle.search_task.specs.Described.{code_before}
use Rattle.search_task.specs.Segments.{AddsSegment}
use Rattle.search_task.proofs.Laid.{code_is, takes_none, takes_segment}
use Rattle.search_task.proofs.spots.add_step.Goals as goal

pub returns-in_ok-add : goal.returns-in_ok-add
returns-in_ok-add c =
    let old = c.args.segments.now in
    let new = c.add.new.self in
    let step = c.args.step in
    let holds : c.origin_of-from.result.number ≡ code_before step =
    code_is c.origin_of-from.result.number c.entered.result step c.entered.ensures
    c.origin_of-from.ensures.number in
    let few : code_before step < 744 = omega (arith, holds, c.if-from-lt-SPOTS.true) in
    takes_segment step old new c.segment_of-segment.result few c.segment_of-segment.ensures
    (subst (λ (n : ℕ). AddsSegment n c.segment_of-segment.result old new) (c.of.ensures ∙ holds) c.in_ok-add.ensures)

pub returns-else-from-lt-SPOTS : goal.returns-else-from-lt-SPOTS
returns-else-from-lt-SPOTS c =
    let holds : c.origin_of-from.result.number ≡ code_before c.args.step =
    code_is _ c.entered.result c.args.step c.entered.ensures c.origin_of-from.ensures.number in
    takes_none c.args.step c.args.segments.now (omega (arith, holds, c.if-from-lt-SPOTS.false))
