use Rattle.std.proofs.Common.{◌≡◌, ◌≤◌, ◌-◌, ◌++◌, length, take, drop}
use Rattle.report.specs.Report.{rounds_in, rounds_text, texts_of_rounds}
use Rattle.report.proofs.text.push_rounds.Given as goal

-- what is added so far and the texts of the rounds to come make up the texts of all rounds
pub record Added (l : goal.Live-loop-begun) : Type 0 where
  pub within : l.begun ≤ length l.game.game.events
  pub along : l.walk.events.now ≡ l.game.game.events
  pub text : l.out.items ++ texts_of_rounds l.game.file l.game.game.seats (take l.begun l.game.game.events)
      (rounds_in (drop l.begun l.game.game.events))
      ≡ l.fn.out.items ++ rounds_text l.game.file l.game.game

abbrev pub invariant-loop-begun : goal.invariant-loop-begun
invariant-loop-begun l = Added l

abbrev pub decreases-loop-begun : goal.decreases-loop-begun
decreases-loop-begun l = length l.game.game.events - l.begun
