use Rattle.std.proofs.Common.{◌≡◌, [], false, take}
use Rattle.std.specs.List.{fold}
use Rattle.desk_why.specs.Refused.{RefusedSoFar, refused_then}
use Rattle.desk_why.proofs.refused.refused_in.Given as goal

-- the rulings among the events so far
abbrev pub invariant-loop-place : goal.invariant-loop-place
invariant-loop-place l =
    ◌≡◌ {A = RefusedSoFar} (record { within = l.within; passed = l.place; places = l.places.items })
    (fold (refused_then l.round) (record { within = false; passed = 0; places = [] }) (take l.place l.events))
