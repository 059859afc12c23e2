use Rattle.std.proofs.Common.{◌≡◌, ◌-◌, ◌≤◌}
use Rattle.history.proofs.walk.Walk.go.Given as goal

-- no further than to that place
abbrev pub invariant-loop-self : goal.invariant-loop-self
invariant-loop-self l = (l.self.events.now ≡ l.fn.self.events.now) × (l.self.passed ≤ l.end)

abbrev pub decreases-loop-self : goal.decreases-loop-self
decreases-loop-self l = l.end - l.self.passed
