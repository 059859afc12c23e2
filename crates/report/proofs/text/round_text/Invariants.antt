use Rattle.std.proofs.Common.{◌≡◌, ◌≤◌, ◌-◌, [], length, take, drop}
use Rattle.report.specs.Report.{rounds_in, text_of_one}
use Rattle.report.proofs.text.round_text.Given as goal

-- nothing is written yet, and the round is one of those to come if it is there at all
pub record Sought (l : goal.Live-loop-begun) : Type 0 where
  pub within : l.begun ≤ length l.game.game.events
  pub none : l.out.items ≡ []
  pub later : text_of_one l.game.file l.game.game.seats l.round (take l.begun l.game.game.events)
      (rounds_in (drop l.begun l.game.game.events)) ≡ text_of_one l.game.file l.game.game.seats l.round []
      (rounds_in l.game.game.events)

abbrev pub invariant-loop-begun : goal.invariant-loop-begun
invariant-loop-begun l = Sought l

abbrev pub decreases-loop-begun : goal.decreases-loop-begun
decreases-loop-begun l = length l.game.game.events - l.begun
