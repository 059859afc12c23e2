-- the lines that the rulings at the places so far refuse
use Rattle.std.proofs.Common.{◌≡◌, take}
use Rattle.std.specs.List.{flat_map}
use Rattle.desk_trials.specs.Refusals.{row_at}
use Rattle.desk_trials.proofs.refusals.rows_at.Given as goal

abbrev pub invariant-loop-place : goal.invariant-loop-place
invariant-loop-place l =
    l.rows.items ≡ flat_map (row_at l.events l.seat) (take l.place-index l.places)
