-- Walks arrive at all that is marked, all tokens are marked, and each spot that is marked waits or
-- was looked at. Walks may take all links that are kept, if none was before.
use Rattle.std.proofs.Common.{◌+◌, ◌-◌, ◌*◌, length}
use Rattle.reach.specs.Search.{AllArrive, CanTakeAll, HasAllTokens, AreLookedAt, KeepsNone, marked}
use Rattle.reach.proofs.search.search.Given as goal

abbrev pub invariant-loop-spot : goal.invariant-loop-spot
invariant-loop-spot g l =
    let position = g.N.Network.position l.network in
    let keeps = g.K.Keeper.keeps in
    record {
      arrive : AllArrive position l.company l.marks.marks;
      tokens : HasAllTokens position l.company l.marks.marks;
      looked : AreLookedAt position l.company l.marks.marks l.marks.waiting (keeps l.keeper);
      taken : KeepsNone (keeps l.initial.keeper) → CanTakeAll position l.company l.marks.marks (keeps l.keeper);
    }

abbrev pub decreases-loop-spot : goal.decreases-loop-spot
decreases-loop-spot g l = 2 * (length l.marks.marks - marked l.marks.marks) + length l.marks.waiting
