use Rattle.std.proofs.Common.{◌≡◌, take}
use Rattle.std.specs.List.{fold}
use Rattle.history.specs.Sound.{IsSound}
use Rattle.purchases.specs.Phases.{with_closed}
use Rattle.purchases.proofs.phases.close_all.Given as goal
use Rattle.tables.specs.Roster.{privates}

-- the privates so far are closed
abbrev pub invariant-loop-private : goal.invariant-loop-private
invariant-loop-private l = record {
  so_far : l.history ≡ fold with_closed l.fn.history (take l.private-index privates);
  sound : IsSound l.history;
}
