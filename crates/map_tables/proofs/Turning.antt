-- Turning: the side this many sides on.
use Rattle.std.proofs.Common.{◌≡◌, ◌+◌, ◌%◌, get_or, refl}
use Rattle.map_tables.specs.declared.side.Side.{Side}
use Rattle.map_tables.specs.declared.side.Side.TheVariants.{SouthWest, West, NorthWest, NorthEast, East, SouthEast}
use Rattle.map_tables.specs.declared.side.Rotation.{Rotation}
use Rattle.map_tables.specs.declared.side.Rotation.TheVariants.{Zero}
use Rattle.map_tables.specs.Side.{sides, number_of, sixths_turned, turned_side}

-- the numbers add up, modulo six
pub side_turned : (s : Side) (rotation : Rotation)
    → get_or sides ((number_of s + sixths_turned rotation) % 6) SouthWest ≡ turned_side rotation s
side_turned SouthWest Zero = refl
side_turned SouthWest _ = refl
side_turned West Zero = refl
side_turned West _ = refl
side_turned NorthWest Zero = refl
side_turned NorthWest _ = refl
side_turned NorthEast Zero = refl
side_turned NorthEast _ = refl
side_turned East Zero = refl
side_turned East _ = refl
side_turned SouthEast Zero = refl
side_turned SouthEast _ = refl
