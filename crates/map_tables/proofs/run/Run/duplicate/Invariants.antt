use Rattle.std.proofs.Common.{◌≡◌, ◌≤◌, length, take}
use Rattle.map_tables.proofs.run.Run.duplicate.Given as goal

-- the places so far
abbrev pub invariant-loop-place : goal.invariant-loop-place
invariant-loop-place l = (l.places.items ≡ take l.place-index l.self) × (length l.self ≤ 280)
