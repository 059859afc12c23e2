-- A spot is known by the number of its hex and the place of its end.
use Rattle.std.proofs.Common.{◌≡◌, ap, sym, ◌∙◌, eq-eqb}
use Rattle.std.proofs.lemmas.Bool.{eqb-true}
use Rattle.map_tables.specs.Hex.{index_of}
use Rattle.map_tables.specs.Track.{end_order}
use Rattle.map_tables.specs.declared.hex.Hex.{Hex}
use Rattle.map_tables.specs.declared.track.TrackEnd.{TrackEnd}
use Rattle.reach.specs.Walk.{spot_at}
use Rattle.reach.specs.declared.walk.Spot.{Spot}
use Rattle.reach.proofs.Hexes.{same_index}
use Rattle.legal_runs.proofs.Named.{same_end}
use Rattle.legal_runs.proofs.two_train.is_entered.Goals as goal

one_spot : (a b : Spot) → index_of a.hex ≡ index_of b.hex → end_order a.end ≡ end_order b.end → a ≡ b
one_spot a b hexes ends =
    ap (λ (h : Hex). spot_at h a.end) (same_index a.hex b.hex hexes)
    ∙ ap (λ (e : TrackEnd). spot_at b.hex e) (same_end a.end b.end ends)

pub returns-then-index : goal.returns-then-index
returns-then-index c =
    let spot : Spot = c.args.spot in
    let entered = c.entered-entered.ensures in (
      λ same. sym entered ∙ one_spot c.entered-entered.result spot
          (sym c.index.ensures.value ∙ c.if-index.true ∙ c.index-2.ensures.value)
          (sym c.order.ensures.value ∙ eqb-true c.order.result c.order-then-index.result same
          ∙ c.order-then-index.ensures.value),
      λ is. eq-eqb c.order.result c.order-then-index.result
          (c.order.ensures.value ∙ ap (λ (s : Spot). end_order s.end) (entered ∙ is)
          ∙ sym c.order-then-index.ensures.value),
    )
