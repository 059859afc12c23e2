-- The links of a hex are those that the position has there.
use Rattle.std.proofs.Common.{◌∙◌, ap, sym}
use Rattle.board_state.proofs.Positions.{in_hex_is}
use Rattle.reach.specs.Position.{InHex}
use Rattle.board_state.proofs.on_map.links_on_map.Goals as goal

pub returns : goal.returns
returns g c = c.track_in.ensures ∙ sym (ap (λ (h : InHex). h.links)
    (in_hex_is (g.L.OnMap.laid c.args.board.now) c.args.hex))
