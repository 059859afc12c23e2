use Rattle.std.proofs.Common.{◌≡◌, take}
use Rattle.std.specs.List.{fold}
use Rattle.desk_why.specs.Detail.{colour_then}
use Rattle.map_tables.specs.Print.{print_of}
use Rattle.desk_why.proofs.refusal_detail.colour_after.Given as goal

-- the colour after the events so far
abbrev pub invariant-loop-event : goal.invariant-loop-event
invariant-loop-event l = l.colour ≡ fold (colour_then l.hex) (print_of l.hex).colour (take l.event-index l.events)
