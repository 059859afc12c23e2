use Rattle.std.proofs.Common.{◌-ℤ◌, pos, ap, ◌∙◌}
use Rattle.totals.proofs.Standing.{less_bids}
use Rattle.totals.specs.Bids.{bids_of}
use Rattle.totals.proofs.look_back.GameView.free_cash.Goals as goal

pub returns : goal.returns
returns c =
    less_bids _ _ _ c.cash.ensures.within c.bids_of.ensures.sum c.bids_of.ensures.within
    ∙ ap (λ cash. cash -ℤ pos (bids_of c.args.self.now.events c.args.seat)) c.cash.ensures.sum
