-- The lays in the rotations so far.
use Rattle.std.proofs.Common.{take, flat_map}
use Rattle.board.specs.LayRules.{IsLayAnswer}
use Rattle.moves.specs.Candidates.{lays_at}
use Rattle.moves.specs.Listed.{Lists}
use Rattle.desk_map_rules.proofs.lays.push_lays_of_tile.Given as goal

abbrev pub invariant-loop-rotation : goal.invariant-loop-rotation
invariant-loop-rotation l =
    Lists (IsLayAnswer l.board l.asker) (flat_map (lays_at l.hex l.tile) (take l.rotation-index l.rotation-items))
    l.fn.lays.items l.lays.items
