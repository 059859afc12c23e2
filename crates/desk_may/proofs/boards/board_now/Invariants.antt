-- The tiles, and then the tokens, before the next one have been put.
use Rattle.std.proofs.Common.{◌≡◌, [], take}
use Rattle.board_state.specs.MapState.{map_state_of}
use Rattle.totals.specs.Operating.{lays_of, tokens_of}
use Rattle.totals.specs.Trains.{phase_of}
use Rattle.desk_may.proofs.boards.board_now.Given as goal

abbrev pub invariant-loop-lay : goal.invariant-loop-lay
invariant-loop-lay l =
    l.board ≡ map_state_of (take l.lay-index (lays_of l.history.events)) [] (phase_of l.history.events)

abbrev pub invariant-loop-token : goal.invariant-loop-token
invariant-loop-token l =
    l.board ≡ map_state_of (lays_of l.history.events) (take l.token-index (tokens_of l.history.events))
    (phase_of l.history.events)
