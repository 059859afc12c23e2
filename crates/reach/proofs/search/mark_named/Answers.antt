-- A token of the list marks the stop that it names.
use Rattle.std.proofs.Common.{refl, subst}
use Rattle.std.proofs.Math.ListN.{drop_of_length-le}
use Rattle.std.proofs.lemmas.List.{drop_more}
use Rattle.reach.proofs.Listed.{TokensListed, listed_all, listed_first, listed_next}
use Rattle.reach.proofs.search.mark_named.Goals as goal

pub loop-token-init : goal.loop-token-init
loop-token-init g c =
    listed_first (g.N.Network.position c.args.network.now) c.args.company c.args.tokens.now c.args.marks.now.marks
    c.args.marks.now.waiting c.requires.named c.requires.marks c.requires.waiting

pub loop-token-preserved : goal.loop-token-preserved
loop-token-preserved g c =
    let position = g.N.Network.position c.args.network.now in
    let old = c.loop-token.marks in
    listed_next position c.args.company old.marks old.waiting _ _
    (subst (λ ts. TokensListed position c.args.company old.marks old.waiting ts)
    (drop_more c.args.tokens.now c.loop-token.token-index _ c.loop-token-test.true) c.loop-token.invariant)
    _ refl _ _ c.mark_listed.ensures

pub returns-clause-tokens : goal.returns-clause-tokens
returns-clause-tokens g c =
    listed_all (g.N.Network.position c.args.network.now) c.args.company c.loop-token.marks.marks
    c.loop-token.marks.waiting _
    (drop_of_length-le c.args.tokens.now c.loop-token-test.false) c.loop-token.invariant
