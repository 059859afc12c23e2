use Rattle.std.proofs.Common.{◌≡◌, ◌+◌}
use Rattle.replay.proofs.merge.place_of.Given as goal

-- the part lives in the page before
abbrev pub invariant-loop-place : goal.invariant-loop-place
invariant-loop-place l = l.old.to + 1 ≡ l.number
