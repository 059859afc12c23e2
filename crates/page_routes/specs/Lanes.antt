-- The lanes of a border. Of the runs that cross it each has one of its own, in the order of the
-- runs: that of the companies, and of the trains of a company as they ran. Some borders are turned:
-- there the order is from the other end on, so that runs lie side by side between borders.
use Rattle.std.specs.Prelude.{◌≡◌, ◌≢◌, ◌<◌, ℕ, ◌-◌, Bool, true, false, ◌&&◌, ◌==◌, if◌then◌else◌, List, take, slice_get, Option, Some, None}
use Rattle.std.specs.List.{count_by, list_any}
use Rattle.map_tables.specs.Border.{neighbour_of}
use Rattle.map_tables.specs.Hex.{same_hex}
use Rattle.map_tables.specs.Side.{facing_of, number_of}
use Rattle.map_tables.specs.declared.hex.Hex.{Hex}
use Rattle.map_tables.specs.declared.side.Side.{Side}
use Rattle.map_tables.specs.declared.side.Side.TheVariants.{SouthWest, West, NorthWest, NorthEast, East, SouthEast}
use Rattle.picture.specs.Lanes.{lane_shift}
use Rattle.markup.specs.declared.point.Point.{Point}
use Rattle.page_routes.specs.declared.lanes.Border.{Border}
use Rattle.page_routes.specs.declared.routes.Route.{Route}
use Rattle.page_routes.specs.declared.routes.Visit.{Visit}

-- a border as its other hex names it, if there is one
abbrev pub named_beyond : Hex → Side → Option Hex → Border
named_beyond hex side None = record { hex = hex; side = side }
named_beyond hex side (Some other) = record { hex = other; side = facing_of side }

-- the border at a side of a hex, under the one name that both its hexes give it: that of the hex to
-- the west
abbrev pub border_at : Hex → Side → Border
border_at hex SouthWest = named_beyond hex SouthWest (neighbour_of hex SouthWest)
border_at hex West = named_beyond hex West (neighbour_of hex West)
border_at hex NorthWest = named_beyond hex NorthWest (neighbour_of hex NorthWest)
border_at hex NorthEast = record { hex = hex; side = NorthEast }
border_at hex East = record { hex = hex; side = East }
border_at hex SouthEast = record { hex = hex; side = SouthEast }

-- whether two borders are one
abbrev pub same_border : Border → Border → Bool
same_border one other = same_hex one.hex other.hex && number_of one.side == number_of other.side

-- whether a run that leaves a hex by a side crosses a border
abbrev pub leaves_over : Border → Hex → Option Side → Bool
leaves_over border hex None = false
leaves_over border hex (Some side) = same_border border (border_at hex side)

-- whether a run leaves the hex of a visit over a border
abbrev pub crosses_at : Border → Visit → Bool
crosses_at border visit = leaves_over border visit.place.hex visit.leaves

-- whether a run crosses a border
abbrev pub crosses : Border → Route → Bool
crosses border route = list_any (crosses_at border) route.visits.items

-- how many lanes a border has: as many as runs cross it
abbrev pub lanes_of : Border → List Route → ℕ
lanes_of border routes = count_by (crosses border) routes

-- whether a border is one of some
abbrev pub is_among : Border → List Border → Bool
is_among border borders = list_any (same_border border) borders

-- how many of the runs before that of a number cross a border
abbrev pub lanes_before : Border → List Route → ℕ → ℕ
lanes_before border routes number = count_by (crosses border) (take number routes)

-- a place among the lanes of a border, from the other end on where the border is turned
abbrev pub counted_from : Bool → ℕ → ℕ → ℕ
counted_from is_turned lanes place = if is_turned then lanes - 1 - place else place

-- the lane of the run of a number: as many as runs before it cross the border, and from the other
-- end on where the border is turned
abbrev pub lane_of : Border → List Route → List Border → ℕ → ℕ
lane_of border routes turned number =
    counted_from (is_among border turned) (lanes_of border routes) (lanes_before border routes number)

-- how far from the middle of a border the run of a number crosses it
abbrev pub shift_of : Border → List Route → List Border → ℕ → Side → Point
shift_of border routes turned number side =
    lane_shift side (lane_of border routes turned number) (lanes_of border routes)

-- of two runs over a border each has a lane of its own
abbrev pub RunsHaveTheirLanes : Type 0
RunsHaveTheirLanes =
    (border : Border) (routes : List Route) (turned : List Border) (n m : ℕ) (one other : Route)
    → n < m → slice_get routes n ≡ Some one → slice_get routes m ≡ Some other
    → crosses border one ≡ true → crosses border other ≡ true
    → lane_of border routes turned n ≢ lane_of border routes turned m
