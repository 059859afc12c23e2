-- What has been laid out is the position.
use Rattle.std.proofs.Common.{refl}
use Rattle.search_task.specs.Legs.{AreDepartures}
use Rattle.search_task.specs.declared.task.Task.{Task}
use Rattle.search_task.proofs.Departing.{departs_same}
use Rattle.search_task.proofs.Described.{describes_it, fits_it}
use Rattle.search_task.proofs.Mirrored.{mirrored_same}
use Rattle.search_task.proofs.ready_task.ReadyTask.of.Goals as goal

pub all_departures-requires : goal.all_departures-requires
all_departures-requires g c =
    let position = g.N.Network.position c.args.network.now in
    let laid = c.in_ok-segments.ensures in
    fits_it position c.args.company c.requires c.args.kinds.now laid.steps laid.all _ c.in_ok-spots.ensures
    laid.segments

pub all_stops-requires-clause-fit : goal.all_stops-requires-clause-fit
all_stops-requires-clause-fit g c =
    let position = g.N.Network.position c.args.network.now in
    let laid = c.in_ok-segments.ensures in
    fits_it position c.args.company c.requires c.args.kinds.now laid.steps laid.all _ c.in_ok-spots.ensures
    laid.segments

pub all_stops-requires-clause-legs : goal.all_stops-requires-clause-legs
all_stops-requires-clause-legs g c = departs_same _ _ refl refl 744 c.in_ok-departures.departures.items
    c.in_ok-departures.ensures

pub invariant_of-result : goal.invariant_of-result
invariant_of-result g c =
    let position = g.N.Network.position c.args.network.now in
    let task : Task = record {
      spots = c.in_ok-spots.spots;
      segments = c.in_ok-segments.segments;
      departures =
          c.in_ok-departures.departures;
      stops = c.in_ok-stops.stops;
      homes = c.in_ok-homes.homes;
      trains =
          c.in_ok-trains.trains;
      mirrored = c.is_mirrored.result;
    } in
    let laid = c.in_ok-segments.ensures in
    let legs : AreDepartures task 744 c.in_ok-departures.departures.items =
    departs_same _ task refl refl 744 c.in_ok-departures.departures.items c.in_ok-departures.ensures in
    record {
      fit = fits_it position c.args.company c.requires c.args.kinds.now laid.steps laid.all task c.in_ok-spots.ensures
          laid.segments;
      legs = record {
        long = legs.long;
        each = legs.each;
        stops =
            record { each = c.in_ok-stops.ensures.each; only = c.in_ok-stops.ensures.only };
        homes =
            c.in_ok-homes.ensures;
        mirrored = λ holds. mirrored_same _ task refl (c.is_mirrored.ensures holds);
      };
    }

pub returns : goal.returns
returns g c =
    let position = g.N.Network.position c.args.network.now in
    let task : Task = record {
      spots = c.in_ok-spots.spots;
      segments = c.in_ok-segments.segments;
      departures =
          c.in_ok-departures.departures;
      stops = c.in_ok-stops.stops;
      homes = c.in_ok-homes.homes;
      trains =
          c.in_ok-trains.trains;
      mirrored = c.is_mirrored.result;
    } in
    let laid = c.in_ok-segments.ensures in
    describes_it position c.args.company c.requires c.args.kinds.now laid.steps laid.all task c.in_ok-spots.ensures
    laid.segments c.in_ok-trains.ensures

pub all_homes-requires : goal.all_homes-requires
all_homes-requires g c =
    let position = g.N.Network.position c.args.network.now in
    let laid = c.in_ok-segments.ensures in
    fits_it position c.args.company c.requires c.args.kinds.now laid.steps laid.all _ c.in_ok-spots.ensures
    laid.segments
