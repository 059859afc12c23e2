use Rattle.std.proofs.Common.{◌≡◌, ◌≤◌, length, take}
use Rattle.events.proofs.packed_run.LongRun.pack.Given as goal

-- the places so far
abbrev pub invariant-loop-place : goal.invariant-loop-place
invariant-loop-place l = (l.places.items ≡ take l.place-index l.run) × (2 ≤ length l.run) × (length l.run ≤ 280)
