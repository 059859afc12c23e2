use Rattle.std.proofs.Common.{◌+◌, ◌≤◌, [], ◌∷◌, length, map, ap, ◌∙◌, arith, lit<}
use Rattle.std.proofs.lemmas.List.{length-append, take_all}
use Rattle.map_tables.specs.Hex.{hexes}
use Rattle.map_tables.specs.declared.hex.Hex.{Hex}
use Rattle.map_tables.proofs.ListedOnce.{hexes_are_93}
use Rattle.reach.specs.Position.{links_of}
use Rattle.certificate.specs.LinkEnds.{ends_of, held}
use Rattle.certificate.proofs.HexLinks.{more_entries}
use Rattle.certificate.proofs.hex_links.HexLinks.of.Goals as goal

pub push-requires : goal.push-requires
push-requires g c = (lit< tt, omega (arith, c.loop-hex.invariant.0, c.loop-hex-test.true))

pub loop-hex-preserved : goal.loop-hex-preserved
unfolding hexes
loop-hex-preserved g c = (
  ap length c.push.ensures.items
      ∙ (length-append c.loop-hex.hexes.items (c.of.result ∷ []) ∙ ap (λ n. n + 1) c.loop-hex.invariant.0),
  ap (map held) c.push.ensures.items
      ∙ more_entries held (λ (hex : Hex). map ends_of (links_of (g.N.Network.position c.args.network.now) hex))
      c.loop-hex.hexes.items c.of.result hexes c.loop-hex.hex-index _ c.loop-hex-test.true c.loop-hex.invariant.1
      (c.of.ensures ∙ ap (map ends_of) c.links.ensures),
)

pub invariant_of-result : goal.invariant_of-result
invariant_of-result g c =
    record { whole = omega (arith, c.loop-hex.invariant.0, c.loop-hex-test.false, c.loop-hex.auto.hex-index-end) }

pub returns : goal.returns
returns g c =
    let all : length hexes ≤ c.loop-hex.hex-index = omega (arith, hexes_are_93, c.loop-hex-test.false) in
    c.loop-hex.invariant.1
    ∙ ap (map (λ (hex : Hex). map ends_of (links_of (g.N.Network.position c.args.network.now) hex)))
    (take_all c.loop-hex.hex-index hexes all)
