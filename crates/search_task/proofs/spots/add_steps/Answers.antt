-- Both steps of the link in hand come after those of the links before it.
use Rattle.std.proofs.Common.{refl, ◌∙◌}
use Rattle.map_tables.specs.Hex.{index_of}
use Rattle.reach.specs.Position.{links_of}
use Rattle.search_task.proofs.Laid.{laid_hex, laid_in, laid_next}
use Rattle.search_task.proofs.spots.add_steps.Goals as goal

pub loop-link-init : goal.loop-link-init
loop-link-init g c = laid_in (g.N.Network.position c.args.network.now) (index_of c.args.hex)
    (links_of (g.N.Network.position c.args.network.now) c.args.hex) _ c.requires.laid

pub loop-link-preserved : goal.loop-link-preserved
loop-link-preserved g c =
    laid_next (g.N.Network.position c.args.network.now) (index_of c.args.hex) c.as_slice-link-items.result.now
    (links_of (g.N.Network.position c.args.network.now) c.args.hex)
    (c.as_slice-link-items.ensures.value ∙ c.links-links.ensures) _ _ _ _ _ c.loop-link-test.true
    c.loop-link.invariant c.in_ok-add_step.ensures c.in_ok-add_step-2.ensures

pub returns : goal.returns
returns g c =
    laid_hex (g.N.Network.position c.args.network.now) c.requires.lawful c.args.hex (index_of c.args.hex) refl
    c.as_slice-link-items.result.now
    (c.as_slice-link-items.ensures.value ∙ c.links-links.ensures) c.loop-link.link-index _ c.loop-link-test.false
    c.loop-link.invariant
