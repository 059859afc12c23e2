-- The lays on the hexes so far.
use Rattle.std.proofs.Common.{[], take, flat_map}
use Rattle.board.specs.LayRules.{IsLayAnswer}
use Rattle.moves.specs.Candidates.{lays_on}
use Rattle.moves.specs.Listed.{Lists}
use Rattle.moves.proofs.lay_list.lays.Given as goal

abbrev pub invariant-loop-hex : goal.invariant-loop-hex
invariant-loop-hex l =
    Lists (IsLayAnswer l.board l.asker) (flat_map lays_on (take l.hex-index l.hex-items)) [] l.lays.items
