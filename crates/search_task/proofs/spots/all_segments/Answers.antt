-- The steps in the hex in hand are added to those in the hexes before it.
use Rattle.std.proofs.Common.{ℕ, ◌+◌, sym, subst, arith}
use Rattle.search_task.specs.Described.{LaidBefore}
use Rattle.search_task.proofs.Laid.{laid_all, laid_none}
use Rattle.search_task.proofs.spots.all_segments.Goals as goal

pub loop-index-init : goal.loop-index-init
loop-index-init g c = rw c.in_ok-segments.ensures (laid_none (g.N.Network.position c.args.network.now))

pub add_steps-requires-clause-laid : goal.add_steps-requires-clause-laid
add_steps-requires-clause-laid g c =
    subst (λ (n : ℕ). LaidBefore (g.N.Network.position c.args.network.now) n c.loop-index.segments)
    (sym c.at_index.ensures) c.loop-index.invariant

pub loop-index-preserved : goal.loop-index-preserved
loop-index-preserved g c =
    subst (λ (n : ℕ). LaidBefore (g.N.Network.position c.args.network.now) (n + 1) c.add_steps.new.segments)
    c.at_index.ensures c.in_ok-add_steps.ensures

pub returns : goal.returns
returns g c =
    laid_all (g.N.Network.position c.args.network.now) c.loop-index.index _ (omega (arith, c.loop-index-test.false))
    c.loop-index.invariant
