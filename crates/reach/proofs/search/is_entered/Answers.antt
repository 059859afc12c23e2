-- In one hex spots have one number where their ends are one.
use Rattle.std.proofs.Common.{◌≡◌, ap, sym, ◌∙◌}
use Rattle.map_tables.specs.declared.hex.Hex.{Hex}
use Rattle.map_tables.specs.declared.track.TrackEnd.{TrackEnd}
use Rattle.reach.specs.Search.{number_at, IsEnteredAt}
use Rattle.reach.specs.Walk.{entered_at}
use Rattle.reach.specs.declared.walk.Spot.{Spot}
use Rattle.reach.specs.declared.walk.WalkStep.{WalkStep}
use Rattle.reach.proofs.Equal.{same_end, end_same}
use Rattle.reach.proofs.Spots.{one_end}
use Rattle.reach.proofs.search.is_entered.Goals as goal

-- a step that enters its link at an end of the hex enters it there
at_end : (step : WalkStep) (at : Spot) → step.link.hex ≡ at.hex → (entered_at step).end ≡ at.end → IsEnteredAt at step
at_end step at hex end = ap (λ (e : TrackEnd). number_at step.link.hex e) end ∙ ap (λ (h : Hex). number_at h at.end) hex

-- and the other way round
end_at : (step : WalkStep) (at : Spot) → step.link.hex ≡ at.hex → IsEnteredAt at step → (entered_at step).end ≡ at.end
end_at step at hex entered =
    one_end step.link.hex (entered_at step).end at.end (entered ∙ sym (ap (λ (h : Hex). number_at h at.end) hex))

pub returns : goal.returns
returns c =
    let step = c.args.step in
    let at = c.args.at in
    let same = ap (λ (s : Spot). s.end) c.entered.ensures in (
      λ alike. at_end step at c.requires (sym same ∙ same_end c.entered.result.end at.end (sym c.eq.ensures ∙ alike)),
      λ entered. c.eq.ensures ∙ end_same c.entered.result.end at.end (same ∙ end_at step at c.requires entered),
    )
