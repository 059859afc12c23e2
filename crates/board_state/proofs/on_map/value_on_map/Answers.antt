-- What a stop is worth is what the position has there.
use Rattle.std.proofs.Common.{◌≡◌, ap, sym, true, false}
use Rattle.map_tables.specs.OnMap.{is_stop}
use Rattle.board_state.proofs.Positions.{shown, not_on_map}
use Rattle.map_tables.specs.Place.{joined_stop_of}
use Rattle.reach.specs.Position.{AtStop}
use Rattle.board_state.proofs.on_map.value_on_map.Goals as goal

pub returns-then-is_stop : goal.returns-then-is_stop
returns-then-is_stop g c =
    let is : is_stop (joined_stop_of c.args.stop) ≡ true = cc in
    let here = ap (λ (s : AtStop). s.value) (shown (g.L.OnMap.laid c.args.board.now) c.args.stop is) in cc

pub returns-else-is_stop : goal.returns-else-is_stop
returns-else-is_stop g c =
    let is : is_stop (joined_stop_of c.args.stop) ≡ false = cc in
    sym (ap (λ (s : AtStop). s.value) (not_on_map (g.L.OnMap.laid c.args.board.now) c.args.stop is))
