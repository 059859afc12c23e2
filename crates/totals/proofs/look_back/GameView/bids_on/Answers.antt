-- The next seat's bid comes after those of the seats before, if there is one.
use Rattle.std.proofs.Common.{arith, sym, ◌∙◌}
use Rattle.totals.proofs.Standing.{bid_added, bid_missing}
use Rattle.totals.proofs.Tied.{is_standing, none_without}
use Rattle.totals.proofs.look_back.GameView.bids_on.Goals as goal
use Rattle.totals.proofs.look_back.GameView.bids_on.Goals.{in-Some, in_default}

pub loop-number-preserved : goal.loop-number-preserved
loop-number-preserved c =
    let events = c.args.self.now.events in
    let private = c.args.private in
    let number = c.loop-number.number in
    let is_bid = is_standing events private number c.standing_by_seat-standing.result c.at-seat.result
    (omega (arith, c.loop-number-test.true, c.requires)) c.at-seat.ensures c.standing_by_seat-standing.ensures in
    elim c.match-standing-number.branch [
      | in-Some w ↦ (
        rw (w.bids-is, w.push.ensures.items) (bid_added number events private _ _ _ c.loop-number.invariant.0
            c.at-seat.ensures (sym w.in-Some.is ∙ is_bid)),
        rw w.bids-is (omega (arith, w.push.ensures.len)),
      )
      | in_default w ↦ (
        rw w.bids-is (bid_missing number events private _ _ c.loop-number.invariant.0 c.at-seat.ensures
            (sym (none_without _ w.in_default.not-Some) ∙ is_bid)),
        rw w.bids-is (omega arith),
      )
    ]
