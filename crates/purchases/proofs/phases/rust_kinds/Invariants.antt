use Rattle.std.proofs.Common.{◌≡◌, take}
use Rattle.std.specs.List.{fold}
use Rattle.history.specs.Sound.{IsSound}
use Rattle.purchases.specs.Phases.{with_kind_rusted_at}
use Rattle.purchases.proofs.phases.rust_kinds.Given as goal
use Rattle.tables.specs.Train.{kinds}

-- the kinds so far have rusted that are to
abbrev pub invariant-loop-kind : goal.invariant-loop-kind
invariant-loop-kind l = record {
  so_far : l.history ≡ fold (with_kind_rusted_at l.new) l.fn.history (take l.kind-index kinds);
  sound : IsSound l.history;
}
