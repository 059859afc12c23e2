use Rattle.std.proofs.Common.{arith, ◌<◌}
use Rattle.totals.specs.Totals.{AreTotalsOf}
use Rattle.totals.proofs.look_back.GameView.standing_bid.Goals as goal

pub returns-in-Some : goal.returns-in-Some
returns-in-Some c =
    let all : AreTotalsOf c.in-Some.totals.now c.args.self.now.events = c.in-Some.ensures.totals in
    let low : c.args.seat.0 < 6 = omega (arith, c.index-number.ensures.value, c.if-number-lt-PLAYERS_MOST.true) in
    rw (c.index-number.ensures.value, c.index.ensures.value) (all.bids c.args.private c.args.seat.0 low)
