-- Each listed stop is one.
use Rattle.std.proofs.Common.{◌<◌, length, refl}
use Rattle.std.proofs.lemmas.Option.{slice_get_read}
use Rattle.search_task.proofs.ready_task.ReadyTask.stop.Goals as goal

pub returns-clause-is : goal.returns-clause-is
returns-clause-is c =
    let stops = c.self.inside.task.stops.items in
    let low : c.args.place < length stops = rw c.self.view_is c.requires in
    rw (← c.self.view_is)
    (c.self.invariant.legs.stops.only c.args.place c.index.result.now
    (slice_get_read stops (length stops) c.args.place c.index.result.now refl low c.index.ensures))
