-- The tokens at a stop are those that the position has there.
use Rattle.std.proofs.Common.{◌≡◌, ◌∙◌, ap, sym, true, false, length}
use Rattle.std.specs.List.{count_by}
use Rattle.map_tables.specs.OnMap.{is_stop, names}
use Rattle.board_state.proofs.Positions.{shown, not_on_map}
use Rattle.board_state.proofs.Tokens.{count_is}
use Rattle.map_tables.specs.Place.{joined_stop_of}
use Rattle.map_tables.specs.declared.place.Place.{Place}
use Rattle.map_tables.specs.declared.place.Stop.{Stop}
use Rattle.reach.specs.Position.{AtStop}
use Rattle.tables.specs.declared.roster.Company.{Company}
use Rattle.board_state.proofs.on_map.taken.Goals as goal

pub returns-then-not-is_stop : goal.returns-then-not-is_stop
returns-then-not-is_stop g c =
    let is : is_stop (joined_stop_of c.args.stop) ≡ false = cc in
    sym (ap (λ (s : AtStop). length s.tokens) (not_on_map (g.L.OnMap.laid c.args.board.now) c.args.stop is))

pub returns : goal.returns
returns g c =
    let laid = g.L.OnMap.laid c.args.board.now in
    let is : is_stop (joined_stop_of c.args.stop) ≡ true = cc in
    c.count_at.ensures
    ∙ ap (λ (stop : Stop). count_by (λ (token : Place × Company). names stop token.0) laid.tokens)
    c.joined_stop-stop.ensures
    ∙ sym (count_is laid.tokens (joined_stop_of c.args.stop))
    ∙ sym (ap (λ (s : AtStop). length s.tokens) (shown laid c.args.stop is))
