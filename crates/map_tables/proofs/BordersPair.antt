-- Borders pair.
use Rattle.std.proofs.Common.{◌≡◌, ◌∙◌, sym, ap, Bool, true, false, Option, Some, None, refl}
use Rattle.map_tables.specs.declared.hex.Hex.{Hex}
use Rattle.map_tables.specs.declared.hex.Hex.TheVariants.{A9}
use Rattle.map_tables.specs.declared.side.Side.{Side}
use Rattle.map_tables.specs.declared.side.Side.TheVariants.{SouthWest, West, NorthWest, NorthEast, East, SouthEast}
use Rattle.map_tables.specs.Hex.{hexes, index_of, site_of, hex_at, same_hex}
use Rattle.map_tables.specs.Side.{facing_of}
use Rattle.map_tables.specs.Border.{adjacent, neighbour_of}
use Rattle.map_tables.proofs.HexTables.{same_hex-true}

-- whether a hex that was found is this one
is_back : Option Hex → Hex → Bool
is_back None hex = false
is_back (Some back) hex = same_hex back hex

-- whether the neighbour over a side, if there is one, has the hex as its neighbour over the facing
-- side
leads_back : Option Hex → Side → Hex → Bool
leads_back None side hex = true
leads_back (Some other) side hex = is_back (neighbour_of other (facing_of side)) hex

back_southwest : (hex : Hex) → leads_back (neighbour_of hex SouthWest) SouthWest hex ≡ true
unfolding leads_back is_back hexes index_of site_of hex_at adjacent neighbour_of
back_southwest A9 = refl
back_southwest _ = refl

back_west : (hex : Hex) → leads_back (neighbour_of hex West) West hex ≡ true
unfolding leads_back is_back hexes index_of site_of hex_at adjacent neighbour_of
back_west A9 = refl
back_west _ = refl

back_northwest : (hex : Hex) → leads_back (neighbour_of hex NorthWest) NorthWest hex ≡ true
unfolding leads_back is_back hexes index_of site_of hex_at adjacent neighbour_of
back_northwest A9 = refl
back_northwest _ = refl

back_northeast : (hex : Hex) → leads_back (neighbour_of hex NorthEast) NorthEast hex ≡ true
unfolding leads_back is_back hexes index_of site_of hex_at adjacent neighbour_of
back_northeast A9 = refl
back_northeast _ = refl

back_east : (hex : Hex) → leads_back (neighbour_of hex East) East hex ≡ true
unfolding leads_back is_back hexes index_of site_of hex_at adjacent neighbour_of
back_east A9 = refl
back_east _ = refl

back_southeast : (hex : Hex) → leads_back (neighbour_of hex SouthEast) SouthEast hex ≡ true
unfolding leads_back is_back hexes index_of site_of hex_at adjacent neighbour_of
back_southeast A9 = refl
back_southeast _ = refl

back : (side : Side) (hex : Hex) → leads_back (neighbour_of hex side) side hex ≡ true
back SouthWest hex = back_southwest hex
back West hex = back_west hex
back NorthWest hex = back_northwest hex
back NorthEast hex = back_northeast hex
back East hex = back_east hex
back SouthEast hex = back_southeast hex

is_back-true : (found : Option Hex) (hex : Hex) → is_back found hex ≡ true → found ≡ Some hex
unfolding is_back
is_back-true None hex e = absurd cc
is_back-true (Some other) hex e = ap (λ h. Some h) (same_hex-true other hex e)

pub pair : (hex : Hex) (side : Side) (other : Hex) → neighbour_of hex side ≡ Some other
    → neighbour_of other (facing_of side) ≡ Some hex
unfolding leads_back
pair hex side other e =
    is_back-true (neighbour_of other (facing_of side)) hex
    (ap (λ found. leads_back found side hex) (sym e) ∙ back side hex)
