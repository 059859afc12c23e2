use Rattle.std.proofs.Common.{◌≡◌, ℕ, ◌<◌}
use Rattle.replay.specs.Shown.{IsBefore, page_at, shown}
use Rattle.replay.proofs.merge.merged.Given as goal

-- the pages so far are shown
abbrev pub invariant-loop-number : goal.invariant-loop-number
invariant-loop-number l =
    IsBefore l.number l.parts.items × ((n : ℕ) → n < l.number → shown n l.parts.items ≡ page_at l.layer l.pages n)
