-- The tiles, and then the tokens, before the next one have been put.
use Rattle.std.proofs.Common.{◌≡◌, [], take}
use Rattle.board_state.specs.MapState.{map_state_of}
use Rattle.board.proofs.board.Board.with.Given as goal

abbrev pub invariant-loop-lay : goal.invariant-loop-lay
invariant-loop-lay l = l.board ≡ map_state_of (take l.lay-index l.lays) [] l.fn.phase

abbrev pub invariant-loop-token : goal.invariant-loop-token
invariant-loop-token l = l.board ≡ map_state_of l.fn.lays (take l.token-index l.tokens) l.fn.phase
