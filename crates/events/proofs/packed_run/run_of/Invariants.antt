use Rattle.std.proofs.Common.{◌≡◌, ◌≤◌, length, take}
use Rattle.events.proofs.packed_run.run_of.Given as goal

-- the places so far
abbrev pub invariant-loop-place : goal.invariant-loop-place
invariant-loop-place l = (l.places.items ≡ take l.place-index l.packed) × (2 ≤ length l.packed)
    × (length l.packed ≤ 280)
