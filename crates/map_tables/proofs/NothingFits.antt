-- Before anything is laid each home has a slot for its token.
use Rattle.std.proofs.Common.{refl}
use Rattle.map_tables.specs.Fit.{NothingFits}
use Rattle.map_tables.specs.Hex.{index_of, hexes, site_of}
use Rattle.map_tables.specs.OnMap.{tile_on}
use Rattle.map_tables.specs.Print.{groups, plain_hexes, print_of}

pub nothing_fits : NothingFits
unfolding index_of hexes site_of groups plain_hexes print_of tile_on
nothing_fits = record { kinds = refl; sides = refl; slots = refl }
