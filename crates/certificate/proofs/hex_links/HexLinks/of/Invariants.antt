-- The links of the hexes so far.
use Rattle.std.proofs.Common.{◌≡◌, length, map, take}
use Rattle.map_tables.specs.Hex.{hexes}
use Rattle.map_tables.specs.declared.hex.Hex.{Hex}
use Rattle.reach.specs.Position.{links_of}
use Rattle.certificate.specs.LinkEnds.{ends_of, held}
use Rattle.certificate.proofs.hex_links.HexLinks.of.Given as goal

abbrev pub invariant-loop-hex : goal.invariant-loop-hex
invariant-loop-hex g l =
    (length l.hexes.items ≡ l.hex-index)
    × (map held l.hexes.items
    ≡ map (λ (hex : Hex). map ends_of (links_of (g.N.Network.position l.network) hex)) (take l.hex-index hexes))
