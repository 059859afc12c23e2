-- The levels before the next one are brought up to date, the others are as they were.
use Rattle.std.proofs.Common.{◌≡◌, ℕ, ◌+◌, ◌-◌, ◌*◌, ◌<◌, ◌≤◌, get_or, length}
use Rattle.best_run.proofs.value_ahead.Worth.pass.Given as goal

abbrev pub invariant-loop-place : goal.invariant-loop-place
invariant-loop-place l =
    (length l.self.beyond ≡ 9)
    × (l.self.levels ≡ l.fn.self.levels)
    × ((place : ℕ) → place < l.place → get_or l.self.beyond place 0
    ≡ get_or l.fn.self.beyond place 0 + (l.value - 10 * place))
    × ((place : ℕ) → l.place ≤ place → get_or l.self.beyond place 0 ≡ get_or l.fn.self.beyond place 0)
    × (l.self.first ≡ l.fn.self.first)
    × (l.self.second ≡ l.fn.self.second)
