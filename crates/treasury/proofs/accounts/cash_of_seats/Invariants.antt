use Rattle.std.proofs.Common.{◌≡◌, ◌<◌, ℕ, get_or, length, pos}
use Rattle.events.specs.Event.{party_at}
use Rattle.totals.specs.LookBack.{IsModerate, cash_of}
use Rattle.tables.specs.Seat.{seat_at}
use Rattle.treasury.proofs.accounts.cash_of_seats.Given as goal

-- the seats so far have their cash
abbrev pub invariant-loop-number : goal.invariant-loop-number
invariant-loop-number l = record {
  all_seats : length l.cash ≡ 6;
  cash : (k : ℕ) → k < l.number → get_or l.cash k (pos 0)
      ≡ cash_of l.fn.now.seats l.fn.now.events (party_at (seat_at k));
  moderate : (k : ℕ) → k < l.number → IsModerate (get_or l.cash k (pos 0));
}
