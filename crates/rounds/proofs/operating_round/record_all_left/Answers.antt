use Rattle.std.proofs.Common.{◌<◌, length, rules, ap, ◌∙◌}
use Rattle.rounds.proofs.CompanyTurns.{as_many_ruled, left_goes_on}
use Rattle.sheets.specs.File.{players_of}
use Rattle.totals.specs.LookBack.{Game}
use Rattle.rounds.proofs.operating_round.record_all_left.Goals as goal

pub loop-seat-preserved : goal.loop-seat-preserved
loop-seat-preserved c =
    let file = c.args.sheets.now in
    let within : c.loop-seat.seat < length (players_of file) = search rules in
    let left = ap (λ (game : Game). game.events) c.in_ok-record_left.ensures.after in
    record {
      seats = ap (λ (game : Game). game.seats) c.in_ok-record_left.ensures.after ∙ c.loop-seat.invariant.seats;
      events =
          left_goes_on file c.args.round c.args.history.now.events c.loop-seat.history.events
          c.record_left.new.history.events c.loop-seat.seat (length (players_of file)) c.at.result within
          c.at.ensures (c.loop-seat.invariant.ruled c.at.result) left
          ∙ c.loop-seat.invariant.events;
      ruled = λ seat. as_many_ruled c.rulings_are_counted.ensures c.args.history.now.events c.loop-seat.history.events
          c.record_left.new.history.events c.at.result _ seat (c.loop-seat.invariant.ruled seat)
          left;
      sound = c.in_ok-record_left.ensures.sound;
    }
