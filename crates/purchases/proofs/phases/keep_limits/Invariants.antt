use Rattle.std.proofs.Common.{◌≡◌, take}
use Rattle.std.specs.List.{fold}
use Rattle.history.specs.Sound.{IsSound}
use Rattle.purchases.specs.Phases.{with_limit_kept}
use Rattle.purchases.proofs.phases.keep_limits.Given as goal
use Rattle.tables.specs.Roster.{companies}

-- the companies so far keep the limit
abbrev pub invariant-loop-company : goal.invariant-loop-company
invariant-loop-company l = record {
  so_far : l.history ≡ fold with_limit_kept l.fn.history (take l.company-index companies);
  sound : IsSound l.history;
}
