use Rattle.std.proofs.Common.{◌≡◌, [], false, take}
use Rattle.std.specs.List.{fold}
use Rattle.purchases.specs.Discard.{Lines, lines_then}
use Rattle.purchases.proofs.discard.lines_in.Given as goal

-- the lines that are still to be used after the events so far
abbrev pub invariant-loop-event : goal.invariant-loop-event
invariant-loop-event l =
    ◌≡◌ {A = Lines} (record { presides = l.presides; kinds = l.lines.items })
    (fold (lines_then l.seat l.company) (record { presides = false; kinds = [] }) (take l.event-index l.events))
