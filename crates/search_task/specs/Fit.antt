-- What keeps a search within its bounds: the numbers of spots and borders, and what a stop is
-- worth.
use Rattle.std.specs.Prelude.{◌≡◌, ℕ, ◌%◌, ◌<◌, ◌≤◌, Bool, true, false, Some, List, length, slice_get}
use Rattle.std.specs.List.{AllByRecursion}
use Rattle.legal_runs.specs.Legal.{map_borders}
use Rattle.reach.specs.Search.{map_spots}
use Rattle.search_task.specs.declared.task.Node.{Node}
use Rattle.search_task.specs.declared.task.Segment.{Segment}
use Rattle.search_task.specs.declared.task.Task.{Task}
use Rattle.search_task.specs.Spots.{LeadsFrom, node_at, own_in, stop_in}

-- borders by their numbers
abbrev pub BordersFit : List ℕ → Type 0
BordersFit borders = AllByRecursion (λ border. border < map_borders) borders

-- a segment leads from a stop to a side, or from a side over at least one border
pub record SegmentFits (task : Task) (from_stop : Bool) (segment : Segment) : Type 0 where
  pub to : segment.to < map_spots
  pub borders : BordersFit segment.borders.items
  pub to_side : from_stop ≡ true → stop_in (node_at task segment.to) ≡ false
  pub over : from_stop ≡ false → 0 < length segment.borders.items

-- a stop is worth at most 80 dollars, a side nothing
pub record NodeFits (node : Node) : Type 0 where
  pub value : node.value ≤ 80
  pub side : node.stop ≡ false → node.value ≡ 0

-- sides are no stops, and have no tokens
abbrev pub IsSide : Task → ℕ → Type 0
IsSide task spot = (stop_in (node_at task spot) ≡ false) × (own_in (node_at task spot) ≡ false)

-- all spots of the map are there, each fit; the first six of each hex are its sides
pub record IsFit (task : Task) : Type 0 where
  pub all : length task.spots.items ≡ map_spots
  pub nodes : (spot : ℕ) (node : Node) → slice_get task.spots.items spot ≡ Some node → NodeFits node
  pub segments : (spot index : ℕ) (segment : Segment) → LeadsFrom task spot index segment
      → SegmentFits task (stop_in (node_at task spot)) segment
  pub sides : (spot : ℕ) → spot % 8 < 6 → IsSide task spot
