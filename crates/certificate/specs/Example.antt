-- A small example of the choice tree. The Pennsylvania has its token on H12 and two 2-trains; a
-- yellow city lies on H10, worth 20, beside its home, worth 10. Its runs can earn 30, since one
-- border joins the two cities. These are the nodes with a bound above 30, in the tree's order, down
-- to nodes whose bound is at most 30.
use Rattle.std.specs.Prelude.{◌≡◌, ℕ, zero, suc, nat_le, Bool, true, false, if◌then◌else◌, Option, Some, None, List, []}
use Rattle.std.specs.Prelude.{◌∷◌, map, codes}
use Rattle.map_tables.specs.Hex.{hexes}
use Rattle.map_tables.specs.Place.{stop_at}
use Rattle.map_tables.specs.declared.hex.Hex.{Hex}
use Rattle.map_tables.specs.declared.hex.Hex.TheVariants.{H10, H12}
use Rattle.map_tables.specs.declared.place.Stop.{Stop}
use Rattle.map_tables.specs.declared.place.StopNumber.TheVariants.{First}
use Rattle.map_tables.specs.declared.side.Side.TheVariants.{East, West}
use Rattle.map_tables.specs.declared.track.TrackEnd.TheVariants.{Side as AtSide, Stop as AtStop}
use Rattle.reach.specs.Position.{InHex, Position, empty_hex}
use Rattle.tables.specs.declared.rolling_stock.Kind.TheVariants.{Two}
use Rattle.tables.specs.declared.roster.Company.TheVariants.{Pennsylvania}
use Rattle.certificate.specs.Digits.{bits_of_digits}
use Rattle.certificate.specs.Holding.{left_over}
use Rattle.certificate.specs.Tree.{Node, bound, children, for_each, root_of}

-- what is in a hex
unfoldable pub on_map : Hex → InHex
on_map H10 = record {
  links = record { hex = H10; a = AtSide West; b = AtStop First }
      ∷ record { hex = H10; a = AtSide East; b = AtStop First } ∷ [];
  stops = record { value = 20; red = false; slots = 1; tokens = [] } ∷ [];
}
on_map H12 = record {
  links =
      record { hex = H12; a = AtSide West; b = AtSide East } ∷
      record { hex = H12; a = AtSide West; b = AtStop First } ∷
      record { hex = H12; a = AtSide East; b = AtStop First } ∷ [];
  stops = record { value = 10; red = false; slots = 1; tokens = Pennsylvania ∷ [] } ∷ [];
}
on_map hex = empty_hex

unfoldable pub two_cities : Position
two_cities = record { hexes = map on_map hexes }

-- the stops that are reached
abbrev pub both_cities : List Stop
both_cities = stop_at H10 First ∷ stop_at H12 First ∷ []

-- for a node, and those below it as far as their bounds are over this, whether its bound is over it
abbrev pub over_bound : ℕ → ℕ → Node → List Bool
over_bound zero revenue node = []
over_bound (suc depth) revenue node =
    if nat_le (bound two_cities both_cities node) revenue then false ∷ [] else
    true ∷ for_each (over_bound depth revenue) (children two_cities Pennsylvania both_cities node)

abbrev pub WorkedTree : Type 0
WorkedTree =
    over_bound 8 30 (root_of (Two ∷ Two ∷ [])) ≡
    true ∷ false ∷ true ∷ true ∷ true ∷ true ∷ true ∷ false ∷ true ∷ true ∷ true ∷ true ∷ true ∷ false ∷ true ∷ true
    ∷ true ∷ []

-- the marks of the tree in hexadecimal digits: they are read over it for 30, three 0 bits being
-- left over, and for no smaller revenue
abbrev pub read_over_tree : ℕ → Option (List Bool)
read_over_tree revenue =
    left_over two_cities Pennsylvania both_cities revenue (root_of (Two ∷ Two ∷ []) ∷ [])
    (bits_of_digits (codes "befb8"))

abbrev pub WorkedMarks : Type 0
WorkedMarks = (read_over_tree 30 ≡ Some (false ∷ false ∷ false ∷ [])) × (read_over_tree 20 ≡ None)
