use Rattle.std.proofs.Common.{ℕ, List, ap, sym, ◌∙◌}
use Rattle.desk_base.proofs.MomentLemmas.{it_comes_next, it_is_awaited}
use Rattle.sheets.specs.File.{all_posted}
use Rattle.desk_base.proofs.between_rounds.comes_next.Goals as goal

pub returns-then-is_awaited-clause-next : goal.returns-then-is_awaited-clause-next
returns-then-is_awaited-clause-next c =
    let asked = c.args.asked in
    λ posted from_start. it_comes_next c.args.play.now c.in-Some.stood asked c.in-Some.ensures
    (it_is_awaited c.in-Some.stood.end asked (sym c.is_awaited.ensures ∙ c.if-is_awaited.true))
    (ap (λ (file : List ℕ). all_posted file asked) (sym c.sheets.ensures) ∙ sym c.are_all_posted.ensures ∙ posted)
    from_start
