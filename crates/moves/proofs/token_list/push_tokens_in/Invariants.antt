-- The tokens at the stops so far.
use Rattle.std.proofs.Common.{◌∷◌, [], take, flat_map}
use Rattle.board.specs.TokenRules.{IsTokenAnswer}
use Rattle.moves.specs.Candidates.{place_at}
use Rattle.moves.specs.Listed.{Lists}
use Rattle.moves.proofs.token_list.push_tokens_in.Given as goal

abbrev pub invariant-loop-stop : goal.invariant-loop-stop
invariant-loop-stop l =
    Lists (IsTokenAnswer l.board l.asker) (flat_map (λ stop. place_at l.hex stop ∷ []) (take l.stop-index l.stop-items))
    l.fn.tokens.items l.tokens.items
