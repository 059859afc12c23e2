-- The links of the last tile on its hex, and those of no other change.
use Rattle.std.proofs.Common.{◌∙◌, ap, sym, cond, Some}
use Rattle.board_state.proofs.Tiles.{last_lies}
use Rattle.map_tables.specs.Lay.{laid_links_of}
use Rattle.map_tables.specs.OnMap.{by_tile, tile_on}
use Rattle.map_tables.specs.Print.{printed_links_of}
use Rattle.board.proofs.board_with_lay.AfterOnMap.links_on.Goals as goal

pub returns-then-same_hex : goal.returns-then-same_hex
returns-then-same_hex c =
    let lays = c.args.self.now.board.now.lays in
    let lay = c.args.self.now.lay in
    let hex = c.args.hex in
    c.laid_links.ensures ∙ ap (by_tile (printed_links_of hex) laid_links_of)
    (sym (last_lies lays lay hex ∙ ap (λ b. cond b (Some lay) (tile_on lays hex))
    (sym c.same_hex.ensures ∙ c.if-same_hex.true)))

pub returns : goal.returns
returns c =
    let lays = c.args.self.now.board.now.lays in
    let lay = c.args.self.now.lay in
    let hex = c.args.hex in
    c.links_on.ensures ∙ ap (by_tile (printed_links_of hex) laid_links_of)
    (sym (last_lies lays lay hex ∙ ap (λ b. cond b (Some lay) (tile_on lays hex))
    (sym c.same_hex.ensures ∙ c.if-same_hex.false)))
