use Rattle.std.proofs.Common.{◌≡◌, ◌++◌, take}
use Rattle.std.specs.List.{flat_map}
use Rattle.report.specs.Line.{event_line}
use Rattle.report.proofs.text.push_round.Given as goal

-- the lines of the events so far
abbrev pub invariant-loop-event : goal.invariant-loop-event
invariant-loop-event l =
    l.out.items ≡ l.fn.out.items ++ flat_map (event_line l.sheets) (take l.event-index l.events)
