-- The stops of the hexes before the next one have been looked at.
use Rattle.std.proofs.Common.{◌*◌}
use Rattle.reach.proofs.Collected.{TokensMarked}
use Rattle.reach.proofs.search.mark_tokens.Given as goal

abbrev pub invariant-loop-index : goal.invariant-loop-index
invariant-loop-index g l =
    TokensMarked (g.N.Network.position l.network) l.company l.marks.marks l.marks.waiting (2 * l.index)
