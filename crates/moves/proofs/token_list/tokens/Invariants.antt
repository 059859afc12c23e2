-- The tokens in the hexes so far.
use Rattle.std.proofs.Common.{[], take, flat_map}
use Rattle.board.specs.TokenRules.{IsTokenAnswer}
use Rattle.moves.specs.Candidates.{places_in}
use Rattle.moves.specs.Listed.{Lists}
use Rattle.moves.proofs.token_list.tokens.Given as goal

abbrev pub invariant-loop-hex : goal.invariant-loop-hex
invariant-loop-hex l =
    Lists (IsTokenAnswer l.board l.asker) (flat_map places_in (take l.hex-index l.hex-items)) [] l.tokens.items
