use Rattle.std.proofs.Common.{◌≡◌, ℕ, ℤ, ap, ◌∙◌, arith, rules}
use Rattle.std.proofs.lemmas.List.{length-set}
use Rattle.events.specs.Event.{party_at}
use Rattle.events.specs.declared.event.Party.{Party}
use Rattle.totals.specs.LookBack.{IsModerate, cash_of}
use Rattle.tables.specs.Seat.{seat_at}
use Rattle.treasury.proofs.Tables.{filled_more}
use Rattle.treasury.proofs.accounts.cash_of_seats.Goals as goal
use mir.Syntax.{w128}
use mir.Val.{SFits}

pub loop-number-preserved : goal.loop-number-preserved
loop-number-preserved c =
    let before = c.loop-number.invariant in
    let fits : SFits w128 c.cash.result = search rules in
    let of : Party → ℤ = λ party. cash_of c.args.now.now.seats c.args.now.now.events party in
    record {
      all_seats = length-set _ _ _ ∙ before.all_seats;
      cash = filled_more (λ (k : ℕ) (z : ℤ). z ≡ of (party_at (seat_at k))) c.loop-number.cash c.loop-number.number
          c.cash.result (omega (arith, before.all_seats, c.loop-number-test.true)) fits
          (c.cash.ensures.sum ∙ ap of (c.of_seat.ensures ∙ ap party_at c.at.ensures)) before.cash;
      moderate = filled_more (λ (k : ℕ) (z : ℤ). IsModerate z) c.loop-number.cash c.loop-number.number c.cash.result
          (omega (arith, before.all_seats, c.loop-number-test.true)) fits c.cash.ensures.within before.moderate;
    }
