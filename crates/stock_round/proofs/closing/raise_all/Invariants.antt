use Rattle.std.proofs.Common.{◌≡◌, drop}
use Rattle.stock_round.specs.Closing.{all_risen}
use Rattle.history.specs.Games.{IsGame}
use Rattle.totals.specs.LookBack.{with_events}
use Rattle.stock_round.proofs.closing.raise_all.Given as goal

-- the companies that are left lead from here where all lead from the start
abbrev pub invariant-loop-company : goal.invariant-loop-company
invariant-loop-company l = record {
  after : with_events l.history (all_risen l.history.events (drop l.company-index l.companies))
      ≡ with_events l.fn.history (all_risen l.fn.history.events l.companies);
  game : IsGame l.history;
}
