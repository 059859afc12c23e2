use Rattle.std.proofs.Common.{◌≡◌, ◌*◌, ◌^◌, ◌≤◌, take, sum_by}
use Rattle.totals.specs.Bids.{tied_on}
use Rattle.tables.specs.Roster.{privates}
use Rattle.totals.proofs.look_back.GameView.bids_of.Given as goal

abbrev pub invariant-loop-private : goal.invariant-loop-private
invariant-loop-private l =
    (l.private-items ≡ privates)
    × (l.sum ≡ sum_by (tied_on l.fn.self.events l.fn.seat) (take l.private-index l.private-items))
    × (l.sum ≤ 2 ^ 32 * l.private-index)
