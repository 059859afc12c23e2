use Rattle.std.proofs.Common.{◌-ℤ◌, pos, ap, ◌∙◌}
use Rattle.totals.proofs.Standing.{less_bids}
use Rattle.totals.specs.Bids.{bids_elsewhere_of}
use Rattle.totals.proofs.look_back.GameView.free_for.Goals as goal

pub returns : goal.returns
returns c =
    less_bids _ _ _ c.cash.ensures.within c.bids_elsewhere.ensures.sum c.bids_elsewhere.ensures.within
    ∙ ap (λ cash. cash -ℤ pos (bids_elsewhere_of c.args.self.now.events c.args.seat c.args.private))
    c.cash.ensures.sum
