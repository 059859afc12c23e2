use Rattle.std.proofs.Common.{◌≡◌, take}
use Rattle.std.specs.List.{fold}
use Rattle.history.specs.Sound.{IsSound}
use Rattle.purchases.specs.Phases.{with_company_rusted}
use Rattle.purchases.proofs.phases.rust_of_companies.Given as goal
use Rattle.tables.specs.Roster.{companies}

-- those of the companies so far have rusted
abbrev pub invariant-loop-company : goal.invariant-loop-company
invariant-loop-company l = record {
  so_far : l.history ≡ fold (with_company_rusted l.kind) l.fn.history (take l.company-index companies);
  sound : IsSound l.history;
}
