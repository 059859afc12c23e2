-- No hex has more than six pieces of track.
use Rattle.std.proofs.Common.{◌≡◌, ◌≤◌, true, leb, length, refl}
use Rattle.std.proofs.lemmas.Bool.{leb-true}
use Rattle.map_tables.specs.declared.hex.Hex.{Hex}
use Rattle.map_tables.specs.declared.hex.Hex.TheVariants.{A9}
use Rattle.map_tables.specs.Hex.{index_of, hexes, site_of}
use Rattle.map_tables.specs.Print.{groups, plain_hexes, print_of}

few_on : (hex : Hex) → leb (length (print_of hex).track) 6 ≡ true
unfolding index_of hexes site_of groups plain_hexes print_of
few_on A9 = refl
few_on _ = refl

pub few_printed : (hex : Hex) → length (print_of hex).track ≤ 6
few_printed hex = leb-true (length (print_of hex).track) 6 (few_on hex)
