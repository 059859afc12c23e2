use Rattle.std.proofs.Common.{◌+◌, ap, sym, ◌∙◌}
use Rattle.std.proofs.lemmas.List.Sums.{count_by_more_no, count_by_more_yes}
use Rattle.board.specs.LayRules.{is_tile}
use Rattle.map_tables.specs.OnMap.{tile_on}
use Rattle.map_tables.specs.declared.hex.Hex.{Hex}
use Rattle.desk_base.proofs.stock_left.on_map_of.Goals.{then-has_tile, else-has_tile}
use Rattle.desk_base.proofs.stock_left.on_map_of.Goals as goal

pub loop-hex-preserved : goal.loop-hex-preserved
loop-hex-preserved c =
    let test = λ (hex : Hex). is_tile c.args.number (tile_on c.args.lays.now hex) in
    elim c.if-has_tile.branch [
      | then-has_tile w ↦ w.count-is ∙ ap (λ n. n + 1) c.loop-hex.invariant
          ∙ sym (count_by_more_yes test _ c.loop-hex.hex-index _ c.loop-hex-test.true
          (sym c.has_tile.ensures ∙ w.if-has_tile.true))
      | else-has_tile w ↦ w.count-is ∙ c.loop-hex.invariant
          ∙ sym (count_by_more_no test _ c.loop-hex.hex-index _ c.loop-hex-test.true
          (sym c.has_tile.ensures ∙ w.if-has_tile.false))
    ]
