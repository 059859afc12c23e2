-- The example is computed from the definitions.
use Rattle.std.proofs.Common.{refl}
use Rattle.map_tables.specs.Border.{adjacent, neighbour_of}
use Rattle.map_tables.specs.Hex.{hex_at, hexes, index_of, site_of}
use Rattle.certificate.specs.Example.{WorkedMarks, WorkedTree, on_map, two_cities}
use Rattle.legal_runs.specs.Legal.{border_of}

pub worked_tree : WorkedTree
unfolding on_map two_cities hexes index_of neighbour_of adjacent hex_at site_of border_of
worked_tree = refl

pub worked_marks : WorkedMarks
unfolding on_map two_cities hexes index_of neighbour_of adjacent hex_at site_of border_of
worked_marks = (refl, refl)
