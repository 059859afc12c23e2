-- The lays of the tiles so far.
use Rattle.std.proofs.Common.{take, flat_map}
use Rattle.board.specs.LayRules.{IsLayAnswer}
use Rattle.moves.specs.Candidates.{lays_of_tile}
use Rattle.moves.specs.Listed.{Lists}
use Rattle.desk_map_rules.proofs.lays.push_lays_on.Given as goal

abbrev pub invariant-loop-tile : goal.invariant-loop-tile
invariant-loop-tile l =
    Lists (IsLayAnswer l.board l.asker) (flat_map (lays_of_tile l.hex) (take l.tile-index l.tile-items)) l.fn.lays.items
    l.lays.items
