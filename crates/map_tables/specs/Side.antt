-- The sides of a hex, in order round it, and how a tile is turned.
use Rattle.std.specs.Prelude.{ℕ, zero, suc, Option, None, Some, ◌==◌, if◌then◌else◌, List, [], ◌∷◌}
use Rattle.map_tables.specs.declared.side.Side.{Side}
use Rattle.map_tables.specs.declared.side.Side.TheVariants.{SouthWest, West, NorthWest, NorthEast, East, SouthEast}
use Rattle.map_tables.specs.declared.side.Rotation.{Rotation}
use Rattle.map_tables.specs.declared.side.Rotation.TheVariants.{Zero, One, Two, Three, Four, Five}

-- the sides, in order
abbrev pub sides : List Side
sides = SouthWest ∷ West ∷ NorthWest ∷ NorthEast ∷ East ∷ SouthEast ∷ []

-- the number of a side
abbrev pub number_of : Side → ℕ
number_of SouthWest = 0
number_of West = 1
number_of NorthWest = 2
number_of NorthEast = 3
number_of East = 4
number_of SouthEast = 5

-- the side that comes this many sides later, clockwise
abbrev pub sides_on : ℕ → Side → Side
sides_on zero side = side
sides_on (suc n) SouthWest = sides_on n West
sides_on (suc n) West = sides_on n NorthWest
sides_on (suc n) NorthWest = sides_on n NorthEast
sides_on (suc n) NorthEast = sides_on n East
sides_on (suc n) East = sides_on n SouthEast
sides_on (suc n) SouthEast = sides_on n SouthWest

-- the side of this number, from 0
abbrev pub side : ℕ → Side
side n = sides_on n SouthWest

-- the side of the neighbour that lies at this side: it has the number that is greater by three,
-- modulo six
abbrev pub facing_of : Side → Side
facing_of s = sides_on 3 s

-- by how many sixths of a turn a tile is turned
abbrev pub sixths_turned : Rotation → ℕ
sixths_turned Zero = 0
sixths_turned One = 1
sixths_turned Two = 2
sixths_turned Three = 3
sixths_turned Four = 4
sixths_turned Five = 5

-- the rotations, in order
abbrev pub rotations : List Rotation
rotations = Zero ∷ One ∷ Two ∷ Three ∷ Four ∷ Five ∷ []

-- the rotation by this many sixths of a turn, if it is under a full turn
abbrev pub rotation_of : ℕ → Option Rotation
rotation_of turns =
    if turns == 0 then Some Zero else if turns == 1 then Some One else if turns == 2 then Some Two else
    if turns == 3 then Some Three else if turns == 4 then Some Four else if turns == 5 then Some Five else None

-- a side of a tile that is turned: each turn adds one to its number, modulo six
abbrev pub turned_side : Rotation → Side → Side
turned_side rotation s = sides_on (sixths_turned rotation) s
