-- The link in hand comes after those before it.
use Rattle.std.proofs.Common.{◌≡◌, true, false, List, length, take, ap, sym, ◌∙◌, subst, arith}
use Rattle.std.proofs.lemmas.List.{take_all}
use Rattle.map_tables.specs.declared.track.Link.{Link}
use Rattle.reach.specs.Position.{IsAmong, Position, links_of}
use Rattle.reach.proofs.Lists.{among_at}
use Rattle.legal_runs.specs.TwoTrain.{LeavesToken}
use Rattle.legal_runs.proofs.TwoTrain.{one_link_more}
use Rattle.legal_runs.proofs.two_train.leaves_in.Goals as goal

pub returns-then-leaves_by : goal.returns-then-leaves_by
returns-then-leaves_by g c = grind (arith, among_at)

pub loop-link-preserved : goal.loop-link-preserved
loop-link-preserved g c =
    let position : Position = g.N.Network.position c.args.network.now in
    let here : List Link = c.as_slice-link-items.result.now in
    let is : here ≡ links_of position c.args.hex = c.as_slice-link-items.ensures.value ∙ c.links-links.ensures in
    one_link_more (LeavesToken position c.args.company) here (links_of position c.args.hex) is c.loop-link.link-index
    _ c.loop-link-test.true c.loop-link.invariant
    (λ found. let wrong : true ≡ false = sym (c.leaves_by.ensures.1 found) ∙ c.if-leaves_by.false in cc)

pub returns : goal.returns
returns g c =
    let position : Position = g.N.Network.position c.args.network.now in
    let here : List Link = c.as_slice-link-items.result.now in
    let is : here ≡ links_of position c.args.hex = c.as_slice-link-items.ensures.value ∙ c.links-links.ensures in (
      λ wrong. absurd cc,
      λ found.
          let whole : take c.loop-link.link-index (links_of position c.args.hex) ≡ links_of position c.args.hex =
          take_all c.loop-link.link-index (links_of position c.args.hex)
          (omega (arith, c.loop-link-test.false, ap length is)) in
          absurd (c.loop-link.invariant found.0 (subst (λ (ls : List Link). IsAmong found.0.link ls) (sym whole)
          found.1) found.2),
    )
