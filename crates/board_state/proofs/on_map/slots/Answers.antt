-- The slots of a stop are those that the position has there.
use Rattle.std.proofs.Common.{◌∙◌, sym}
use Rattle.board_state.proofs.Positions.{slots_on_map}
use Rattle.board_state.proofs.on_map.slots.Goals as goal

pub returns-clause-shown : goal.returns-clause-shown
returns-clause-shown g c =
    c.slots_there.ensures ∙ sym (slots_on_map (g.L.OnMap.laid c.args.board.now) c.args.stop)
