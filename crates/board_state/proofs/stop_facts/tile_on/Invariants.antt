-- What lies on the hex is what those lays say that are not looked at yet.
use Rattle.std.proofs.Common.{◌≡◌}
use Rattle.std.specs.Iterator.Adapters.{rev_source}
use Rattle.std.specs.Slice.Iter.{iter_rest}
use Rattle.map_tables.specs.OnMap.{tile_on}
use Rattle.board_state.proofs.stop_facts.tile_on.Given as goal

abbrev pub invariant-loop-lay : goal.invariant-loop-lay
invariant-loop-lay l =
    goal.iterator-loop-lay.can_next l.lay-iterator ×
    goal.iterator-loop-lay.is_finite l.lay-iterator ×
    (tile_on l.lays l.hex ≡ tile_on (iter_rest (rev_source l.lay-iterator)) l.hex)
