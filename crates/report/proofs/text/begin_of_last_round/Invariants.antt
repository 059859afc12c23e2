use Rattle.std.proofs.Common.{◌≡◌, ◌≤◌, false, length, drop}
use Rattle.std.specs.Prelude.{is_some}
use Rattle.std.specs.List.{list_any}
use Rattle.events.specs.Event.{round_begun_by}
use Rattle.report.proofs.text.begin_of_last_round.Given as goal

-- no event from here on begins a round
pub record NoneBegins (l : goal.Live-loop-begun) : Type 0 where
  pub within : l.begun ≤ length l.events
  pub none : list_any (λ event. is_some (round_begun_by event)) (drop l.begun l.events) ≡ false

abbrev pub invariant-loop-begun : goal.invariant-loop-begun
invariant-loop-begun l = NoneBegins l

abbrev pub decreases-loop-begun : goal.decreases-loop-begun
decreases-loop-begun l = l.begun
