use Rattle.std.proofs.Common.{◌≡◌, OnOk, refl, subst, ap, ◌∙◌, arith}
use Rattle.events.specs.declared.event.Holder.TheVariants as holder
use Rattle.events.specs.declared.event.Shareholder.TheVariants as place
use Rattle.totals.specs.LookBack.{Game}
use Rattle.certs.proofs.Dividends.{all_are_paid, paid_seats, pool_most, seat_most, seats_go_on}
use Rattle.certs.specs.Dividend.{dividend_of, paid_for}
use Rattle.tables.specs.declared.seat.Seat.{Seat}
use Rattle.certs.proofs.dividend.pay_all.Goals as goal

pub pay_for-requires-clause-most : goal.pay_for-requires-clause-most
pay_for-requires-clause-most c =
    let so_far = c.loop-seat.invariant in
    let number : c.at-seat.result.0 ≡ c.loop-seat.seat = ap (λ (seat : Seat). seat.0) c.at-seat.ensures in
    seat_most c.loop-seat.history c.args.company c.at-seat.result (omega (arith, so_far.seats)) so_far.game.sound

pub loop-seat-preserved : goal.loop-seat-preserved
loop-seat-preserved c =
    let so_far = c.loop-seat.invariant in
    let company = c.args.company in
    let revenue = c.args.revenue in
    let game = c.loop-seat.history in
    let seat = c.at-seat.result in
    let recorded = c.in_ok-pay_for.ensures.after in
    record {
      seats = ap (λ (game : Game). game.seats) recorded
          ∙ paid_seats game company (holder.Seat seat) (dividend_of game.events company (place.Seat seat) revenue)
          ∙ so_far.seats;
      paid = seats_go_on company revenue game c.pay_for.new.history seat c.loop-seat.seat c.args.history.now.seats
          (omega arith) c.at-seat.ensures recorded
          ∙ so_far.paid;
      game = c.in_ok-pay_for.ensures.game;
    }

pub pay_for-requires-2-clause-most : goal.pay_for-requires-2-clause-most
pay_for-requires-2-clause-most c =
    pool_most c.loop-seat.history c.args.company c.loop-seat.invariant.game.sound

pub returns-clause-after : goal.returns-clause-after
returns-clause-after c =
    let so_far = c.loop-seat.invariant in
    let company = c.args.company in
    let revenue = c.args.revenue in
    let paid = c.loop-seat.history in
    let old = c.args.history.now in
    let new : Game = paid_for company (holder.Company company) place.BankPool revenue paid in
    subst (λ (game : Game). OnOk c.pay_for-2.result (c.pay_for-2.new.history ≡ game))
    (all_are_paid company revenue old paid new c.loop-seat.seat old.seats refl (omega arith) so_far.paid refl)
    c.pay_for-2.ensures.after
