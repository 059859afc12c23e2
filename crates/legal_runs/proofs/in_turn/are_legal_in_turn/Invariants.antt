use Rattle.std.proofs.Common.{◌≡◌, ◌↔◌, ℕ, pos, drop}
use Rattle.legal_runs.specs.InTurn.{AreLegalInTurn}
use Rattle.legal_runs.specs.TwoTrain.{none_used}
use Rattle.legal_runs.proofs.in_turn.are_legal_in_turn.Given as goal

abbrev pub invariant-loop-run : goal.invariant-loop-run
invariant-loop-run g l =
    (n : ℕ) × (l.left ≡ pos n)
    × (AreLegalInTurn (g.N.Network.position l.network) l.company none_used l.revenue l.claimed
    ↔ AreLegalInTurn (g.N.Network.position l.network) l.company l.used n (drop l.run-index l.claimed))
