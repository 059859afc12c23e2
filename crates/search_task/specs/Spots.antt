-- What is known of a spot, by its number, and the segments that lead from it.
use Rattle.std.specs.Prelude.{◌≡◌, ℕ, Bool, true, false, Option, Some, None, List, slice_get}
use Rattle.search_task.specs.declared.task.Node.{Node}
use Rattle.search_task.specs.declared.task.Segment.{Segment}
use Rattle.search_task.specs.declared.task.Task.{Task}
use Rattle.search_task.specs.Segments.{segments_from}

-- what is known of a spot, by its number
abbrev pub value_in : Option Node → ℕ
value_in (Some node) = node.value
value_in None = 0

abbrev pub own_in : Option Node → Bool
own_in (Some node) = node.own
own_in None = false

abbrev pub ends_in : Option Node → Bool
ends_in (Some node) = node.ends
ends_in None = true

abbrev pub stop_in : Option Node → Bool
stop_in (Some node) = node.stop
stop_in None = false

abbrev pub node_at : Task → ℕ → Option Node
node_at task stop = slice_get task.spots.items stop

-- the segments that lead from a spot
abbrev pub segments_at : Task → ℕ → List Segment
segments_at task spot = segments_from spot task.segments

-- a segment leads from a stop, at a place among its segments
abbrev pub LeadsFrom : Task → ℕ → ℕ → Segment → Type 0
LeadsFrom task stop index segment = slice_get (segments_at task stop) index ≡ Some segment
