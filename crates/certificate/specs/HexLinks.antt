-- The links of all hexes, as a walk over the choice tree looks them up.
use Rattle.std.specs.Prelude.{◌≡◌, map}
use Rattle.map_tables.specs.Hex.{hexes}
use Rattle.map_tables.specs.declared.hex.Hex.{Hex}
use Rattle.reach.specs.Position.{Position, links_of}
use Rattle.certificate.specs.LinkEnds.{ends_of, held}
use Rattle.certificate.specs.declared.hex_links.HexLinks.{HexLinks}

-- the links are those of the hexes at a position, in the order of the hexes
abbrev pub AreHexLinks : Position → HexLinks → Type 0
AreHexLinks position table = map held table.hexes.items ≡ map (λ (hex : Hex). map ends_of (links_of position hex)) hexes
