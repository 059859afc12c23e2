-- The stops of a hex come after those of the hexes before it.
use Rattle.std.proofs.Common.{◌*◌, subst, arith}
use Rattle.reach.proofs.Listed.{unmarked}
use Rattle.reach.specs.Search.{spot_number, Waits}
use Rattle.reach.proofs.Collected.{tokens_added, all_tokens}
use Rattle.reach.proofs.search.mark_tokens.Goals as goal

pub loop-index-init : goal.loop-index-init
loop-index-init g c =
    let marks = c.args.marks.now.marks in
    record {
      arrive = λ spot is. absurd (unmarked marks c.requires.marks (spot_number spot) is);
      tokens = λ stop low token. absurd (omega arith);
      wait = record {
        all = λ spot is. absurd (unmarked marks c.requires.marks (spot_number spot) is);
        known = λ spot waits. absurd (subst (λ w. Waits w spot) c.requires.waiting waits);
      };
    }

pub loop-index-preserved : goal.loop-index-preserved
loop-index-preserved g c =
    tokens_added (g.N.Network.position c.args.network.now) c.args.company _ _ c.at_index-hex.result c.loop-index.index
    c.at_index-hex.ensures c.loop-index.invariant _ _ c.mark_token.ensures _ _ c.mark_token-in-loop-index.ensures

pub returns-clause-arrive : goal.returns-clause-arrive
returns-clause-arrive g c = c.loop-index.invariant.arrive

pub returns-clause-tokens : goal.returns-clause-tokens
returns-clause-tokens g c =
    all_tokens (g.N.Network.position c.args.network.now) c.args.company c.loop-index.marks.marks
    (2 * c.loop-index.index) (omega (arith, c.loop-index-test.false)) c.loop-index.invariant.tokens

pub returns-clause-wait : goal.returns-clause-wait
returns-clause-wait g c = c.loop-index.invariant.wait
