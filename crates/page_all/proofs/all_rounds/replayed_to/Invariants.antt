use Rattle.rounds.specs.Steps.{IsUnbroken}
use Rattle.page_all.proofs.all_rounds.replayed_to.Given as goal

-- no fault has broken play off
abbrev pub invariant-loop : goal.invariant-loop
invariant-loop l = IsUnbroken l.play
