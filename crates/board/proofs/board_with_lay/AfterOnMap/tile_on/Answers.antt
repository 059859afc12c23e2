-- The last tile lies on its hex, and changes no other.
use Rattle.std.proofs.Common.{◌∙◌, ap, sym, cond, Some}
use Rattle.board_state.proofs.Tiles.{last_lies}
use Rattle.map_tables.specs.OnMap.{tile_on}
use Rattle.board.proofs.board_with_lay.AfterOnMap.tile_on.Goals as goal

pub returns-then-same_hex : goal.returns-then-same_hex
returns-then-same_hex c =
    let lays = c.args.self.now.board.now.lays in
    let lay = c.args.self.now.lay in
    sym (last_lies lays lay c.args.hex ∙ ap (λ b. cond b (Some lay) (tile_on lays c.args.hex))
    (sym c.same_hex.ensures ∙ c.if-same_hex.true))

pub returns : goal.returns
returns c =
    let lays = c.args.self.now.board.now.lays in
    let lay = c.args.self.now.lay in
    c.tile_on.ensures ∙ sym (last_lies lays lay c.args.hex
    ∙ ap (λ b. cond b (Some lay) (tile_on lays c.args.hex)) (sym c.same_hex.ensures ∙ c.if-same_hex.false))
