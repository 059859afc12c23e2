use Rattle.std.proofs.Common.{◌+◌, ap, sym, ◌∙◌}
use Rattle.std.proofs.lemmas.List.Sums.{count_by_more_no, count_by_more_yes}
use Rattle.board.specs.LayRules.{is_tile}
use Rattle.page_map.proofs.tiles_shown.count_of.Goals.{then-is_tile, else-is_tile}
use Rattle.page_map.proofs.tiles_shown.count_of.Goals as goal

pub loop-tile-preserved : goal.loop-tile-preserved
loop-tile-preserved c =
    elim c.if-is_tile.branch [
      | then-is_tile w ↦ w.count-is ∙ ap (λ n. n + 1) c.loop-tile.invariant
          ∙ sym (count_by_more_yes (is_tile c.args.number) _ c.loop-tile.tile-index _ c.loop-tile-test.true
          (sym c.is_tile.ensures ∙ w.if-is_tile.true))
      | else-is_tile w ↦ w.count-is ∙ c.loop-tile.invariant
          ∙ sym (count_by_more_no (is_tile c.args.number) _ c.loop-tile.tile-index _ c.loop-tile-test.true
          (sym c.is_tile.ensures ∙ w.if-is_tile.false))
    ]
