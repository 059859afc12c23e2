-- The values of the tables, the red areas and the homes.
use Rattle.std.proofs.Common.{◌≡◌, ◌<◌, ◌≤◌, ◌⊎◌, inl, inr, true, leb, ltb, refl}
use Rattle.std.proofs.lemmas.Bool.{leb-true, ltb-true}
use Rattle.tables.specs.declared.roster.Company.{Company}
use Rattle.tables.specs.declared.roster.Company.TheVariants.{Pennsylvania}
use Rattle.map_tables.specs.declared.hex.Hex.{Hex}
use Rattle.map_tables.specs.declared.hex.Hex.TheVariants.{A9, I1}
use Rattle.map_tables.specs.declared.place.Stop.{Stop}
use Rattle.map_tables.specs.declared.print.HexKind.TheVariants.{Red}
use Rattle.map_tables.specs.declared.tiles.TileNo.{TileNo}
use Rattle.map_tables.specs.declared.tiles.TileNo.TheVariants.{T1}
use Rattle.map_tables.specs.Hex.{index_of, hexes, site_of}
use Rattle.map_tables.specs.Place.{joined_hex, joined_stop_of, stop_at}
use Rattle.map_tables.specs.Print.{groups, plain_hexes, print_of}
use Rattle.map_tables.specs.Tile.{printed, entry_of}
use Rattle.map_tables.specs.Home.{home_of}

early : (hex : Hex) → leb (print_of hex).value.before_phase_five 80 ≡ true
unfolding index_of hexes site_of groups plain_hexes print_of
early A9 = refl
early _ = refl

late : (hex : Hex) → leb (print_of hex).value.from_phase_five 80 ≡ true
unfolding index_of hexes site_of groups plain_hexes print_of
late A9 = refl
late _ = refl

pub hex_value : (hex : Hex) → ((print_of hex).value.before_phase_five ≤ 80)
    × ((print_of hex).value.from_phase_five ≤ 80)
hex_value hex = (
  leb-true (print_of hex).value.before_phase_five 80 (early hex),
  leb-true
      (print_of hex).value.from_phase_five 80 (late hex),
)

of_tile : (tile : TileNo) → leb (entry_of tile).value 80 ≡ true
unfolding printed
of_tile T1 = refl
of_tile _ = refl

pub tile_value : (tile : TileNo) → (entry_of tile).value ≤ 80
tile_value tile = leb-true (entry_of tile).value 80 (of_tile tile)

joined : (hex : Hex) → (joined_hex hex ≡ hex) ⊎ (((print_of hex).kind ≡ Red) × ((print_of (joined_hex hex)).kind ≡ Red))
unfolding index_of hexes site_of groups plain_hexes print_of
joined A9 = inr (refl, refl)
joined I1 = inr (refl, refl)
joined _ = inl refl

pub red_area : (stop : Stop) → (joined_stop_of stop ≡ stop)
    ⊎ (((print_of stop.hex).kind ≡ Red) × ((print_of (joined_stop_of stop).hex).kind ≡ Red))
red_area stop =
    elim (joined stop.hex) [
      | inl same ↦ inl (let e : stop_at (joined_hex stop.hex) stop.number ≡ stop_at stop.hex stop.number = cc in e)
      | inr red ↦ inr red
    ]

home_takes : (company : Company) → ltb 0 (print_of (home_of company).hex).slots ≡ true
unfolding index_of hexes site_of groups plain_hexes print_of
home_takes Pennsylvania = refl
home_takes _ = refl

pub home_token : (company : Company) → 0 < (print_of (home_of company).hex).slots
home_token company = ltb-true 0 (print_of (home_of company).hex).slots (home_takes company)
