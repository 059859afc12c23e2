use Rattle.std.proofs.Common.{◌≡◌, ◌≤◌, length}
use Rattle.totals.specs.Bids.{bids_on}
use Rattle.totals.proofs.look_back.GameView.bids_on.Given as goal

abbrev pub invariant-loop-number : goal.invariant-loop-number
invariant-loop-number l =
    (l.bids.items ≡ bids_on l.number l.fn.self.events l.fn.private) × (length l.bids.items ≤ l.number)
