-- Each stop with a token is marked, or one of the tokens that are left names it.
use Rattle.std.proofs.Common.{drop}
use Rattle.reach.proofs.Listed.{TokensListed}
use Rattle.reach.proofs.search.mark_named.Given as goal

abbrev pub invariant-loop-token : goal.invariant-loop-token
invariant-loop-token g l =
    TokensListed (g.N.Network.position l.network) l.company l.marks.marks l.marks.waiting
    (drop l.token-index l.tokens)
