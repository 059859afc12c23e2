-- The links of the tile that lies are kept.
use Rattle.std.proofs.Common.{◌∙◌, ap, sym, []}
use Rattle.board_state.specs.MapState.{MapState}
use Rattle.map_tables.specs.Lay.{laid_links_of}
use Rattle.map_tables.specs.OnMap.{by_tile, tile_on}
use Rattle.map_tables.specs.Print.{printed_links_of}
use Rattle.board.proofs.board.BoardOnMap.links_on.Goals as goal

pub returns-in-Some : goal.returns-in-Some
returns-in-Some c =
    let hex = c.args.hex in
    let lies = sym c.tile_on.ensures ∙ c.in-Some.is in
    c.links_of_tile.ensures
    ∙ c.self.invariant.link hex
    ∙ ap (λ (laid : MapState). by_tile [] laid_links_of (tile_on laid.lays hex)) c.self.view_is
    ∙ ap (by_tile [] laid_links_of) lies
    ∙ sym (ap (by_tile (printed_links_of hex) laid_links_of) lies)
