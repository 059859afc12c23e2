use Rattle.std.proofs.Common.{◌≡◌, take, None}
use Rattle.std.specs.List.{fold}
use Rattle.desk_base.specs.Objections.{way_then}
use Rattle.desk_base.proofs.by_tables.way_of.Given as goal

-- the way along the places so far
abbrev pub invariant-loop-place : goal.invariant-loop-place
invariant-loop-place l = l.way ≡ fold way_then (record { before = None; wrong = None }) (take l.place-index l.places)
