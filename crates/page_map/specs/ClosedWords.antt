-- What the words of a hex say of its closed borders: each of them by the number of its side, and no
-- other.
use Rattle.std.specs.Prelude.{ℕ, Bool, if◌then◌else◌, List, [], ◌++◌, codes}
use Rattle.std.specs.List.{list_any}
use Rattle.map_tables.specs.Side.{sides}
use Rattle.map_tables.specs.declared.hex.Hex.{Hex}
use Rattle.map_tables.specs.declared.side.Side.{Side}
use Rattle.map_tables.specs.declared.side.Side.TheVariants.{SouthWest, West, NorthWest, NorthEast, East, SouthEast}
use Rattle.picture.specs.ClosedSides.{is_closed_side}

-- the number of a side behind a space
abbrev pub side_word : Side → List ℕ
side_word SouthWest = codes " 0"
side_word West = codes " 1"
side_word NorthWest = codes " 2"
side_word NorthEast = codes " 3"
side_word East = codes " 4"
side_word SouthEast = codes " 5"

-- that, if the border at the side is closed
abbrev pub side_named : Hex → Side → List ℕ
side_named hex side = if is_closed_side hex side then side_word side else []

-- whether some border of a hex is closed
abbrev pub has_closed_side : Hex → Bool
has_closed_side hex = list_any (is_closed_side hex) sides

-- a text, and behind it the words for the closed borders of a hex, if it has some
abbrev pub with_closed_sides : List ℕ → Hex → List ℕ
with_closed_sides text hex =
    if has_closed_side hex
    then text ++ codes "; closed border at side" ++ side_named hex SouthWest ++ side_named hex West
    ++ side_named hex NorthWest ++ side_named hex NorthEast ++ side_named hex East ++ side_named hex SouthEast
    else text
