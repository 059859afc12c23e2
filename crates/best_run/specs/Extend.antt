-- What holds wherever a partial run is looked ahead from, or extended.
use Rattle.std.specs.Prelude.{◌+◌, ◌<◌, ◌≤◌, length}
use Rattle.search_task.specs.declared.task.Task.{Task}
use Rattle.best_run.specs.declared.state.Assigned.{Assigned}
use Rattle.best_run.specs.declared.state.PartialRun.{PartialRun}
use Rattle.search_task.specs.Legs.{IsStop}
use Rattle.search_task.specs.Spots.{node_at, stop_in}
use Rattle.best_run.specs.Room.{HasRoom, credit, revenue_most}

-- a train is left, whose run has begun at a stop and has reached one, and what is earned is within
-- the limit
pub record MayLookAhead (task : Task) (assigned : Assigned) (run : PartialRun) : Type 0 where
  pub next : assigned.next < length task.trains.items
  pub at_stop : IsStop task run.head
  pub begun : IsStop task run.home
  pub room : assigned.total + run.value ≤ revenue_most

-- a train is left, whose run has begun at a stop and has reached one, and what it may still earn is
-- within the limit
pub record MayExtend (task : Task) (assigned : Assigned) (run : PartialRun) : Type 0 where
  pub next : assigned.next < length task.trains.items
  pub at_stop : IsStop task run.head
  pub begun : IsStop task run.home
  pub room : HasRoom assigned.used (assigned.total + (run.value + credit (stop_in (node_at task run.head))))
      revenue_most
