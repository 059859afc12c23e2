use Rattle.std.proofs.Common.{[]}
use Rattle.legal_runs.specs.Legal.{listed}
use Rattle.map_tables.specs.Place.{stop_of_place}
use Rattle.tables.proofs.OneMore.{elements_step}
use Rattle.desk_map_rules.proofs.run_rules.stops_named.Goals as goal

pub loop-place-preserved : goal.loop-place-preserved
loop-place-preserved c =
    elements_step (λ place. listed (stop_of_place place)) c.args.places.now c.loop-place.place-index _ [] _ _
    c.loop-place-test.true c.loop-place.invariant c.in_ok-push_stop.ensures
