use Rattle.std.proofs.Common.{◌≡◌, ◌<◌, ℕ, get_or, length, pos}
use Rattle.tables.specs.Roster.{companies}
use Rattle.tables.specs.declared.roster.Company.TheVariants.{Pennsylvania}
use Rattle.events.specs.declared.event.Holder.TheVariants as holder
use Rattle.events.specs.declared.event.Party.TheVariants as party
use Rattle.totals.specs.LookBack.{IsModerate, cash_of}
use Rattle.treasury.proofs.accounts.cash_of_companies.Given as goal

-- the companies so far have their cash
abbrev pub invariant-loop-place : goal.invariant-loop-place
invariant-loop-place l = record {
  all_companies : length l.cash ≡ 8;
  cash : (k : ℕ) → k < l.place → get_or l.cash k (pos 0)
      ≡ cash_of l.fn.now.seats l.fn.now.events (party.Holder (holder.Company (get_or companies k Pennsylvania)));
  moderate : (k : ℕ) → k < l.place → IsModerate (get_or l.cash k (pos 0));
}
