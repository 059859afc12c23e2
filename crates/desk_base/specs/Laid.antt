-- What lies on the map after one more event: its tile, if it lays one, behind those that were laid,
-- and its token, if it places one, behind those that were placed.
use Rattle.std.specs.Prelude.{[], ◌++◌}
use Rattle.std.specs.List.{cons_option}
use Rattle.board_state.specs.MapState.{MapState, map_state_of}
use Rattle.events.specs.Event.{tile_laid, token_placed}
use Rattle.events.specs.declared.event.Event.{Event}

abbrev pub laid_then : MapState → Event → MapState
laid_then laid event =
    map_state_of (laid.lays ++ cons_option (tile_laid event) []) (laid.tokens ++ cons_option (token_placed event) [])
    laid.phase
