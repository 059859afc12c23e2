-- The lanes of a border: where the runs that share it cross it. They lie along the border about its
-- middle, a step apart. Half steps are counted, so that all is in whole numbers.
use Rattle.std.specs.Prelude.{ℕ, ◌+◌, ◌*◌, ℤ, pos, negsuc, ◌-ℤ◌, ◌*ℤ◌, int_div, leb, Bool, if◌then◌else◌}
use Rattle.map_tables.specs.declared.side.Side.{Side}
use Rattle.map_tables.specs.declared.side.Side.TheVariants.{SouthWest, West, NorthWest, NorthEast, East, SouthEast}
use Rattle.markup.specs.declared.point.Point.{Point}
use Rattle.picture.specs.Points.{point_at}

-- so many parts of ten, or of two, of a number of half steps, rounded towards 0
abbrev pub tenths : ℤ → ℤ → ℤ
tenths parts half_steps = int_div (parts *ℤ half_steps) (pos 10)

abbrev pub halves : ℤ → ℤ → ℤ
halves parts half_steps = int_div (parts *ℤ half_steps) (pos 2)

-- how far a step goes along an upright border, and ten half steps along another: across and down.
-- A step is 9 where lanes are wide apart, and 7 otherwise
abbrev pub upright : Bool → ℤ
upright is_wide = if is_wide then pos 9 else pos 7

abbrev pub across : Bool → ℤ
across is_wide = if is_wide then pos 39 else pos 30

abbrev pub back : Bool → ℤ
back is_wide = if is_wide then negsuc 38 else negsuc 29

abbrev pub down : Bool → ℤ
down is_wide = if is_wide then pos 22 else pos 17

-- the point this many half steps from the middle of a side along it
abbrev pub along_side : Side → Bool → ℤ → Point
along_side West is_wide half_steps = point_at (pos 0) (halves (upright is_wide) half_steps)
along_side East is_wide half_steps = point_at (pos 0) (halves (upright is_wide) half_steps)
along_side SouthWest is_wide half_steps = point_at (tenths (across is_wide) half_steps) (tenths (down is_wide) half_steps)
along_side NorthEast is_wide half_steps = point_at (tenths (across is_wide) half_steps) (tenths (down is_wide) half_steps)
along_side NorthWest is_wide half_steps = point_at (tenths (back is_wide) half_steps) (tenths (down is_wide) half_steps)
along_side SouthEast is_wide half_steps = point_at (tenths (back is_wide) half_steps) (tenths (down is_wide) half_steps)

-- how far from the middle of a side the run of a lane crosses it, where the border has so many
-- lanes. At most 3 lanes are wide apart
abbrev pub lane_shift : Side → ℕ → ℕ → Point
lane_shift side lane lanes = along_side side (leb lanes 3) (pos (2 * lane + 1) -ℤ pos lanes)
