use Rattle.std.proofs.Common.{ℕ, Result}
use Rattle.operating.specs.Calls.{Makes, SomeTimesThen, Unasked}
use Rattle.rounds.proofs.StepByStep.{IsAt}
use Rattle.rounds.specs.GameCalls.{GameCalls, PlayStops, RoundCalls}
use Rattle.rounds.specs.Play.{AreRounds, Between, Played, before_play}
use Rattle.rounds.specs.Steps.{places_ahead}
use Rattle.rounds.specs.declared.fault.PlayFault.{PlayFault}
use Rattle.rounds.specs.declared.fault.PlayFault.TheVariants.{Memory}
use Rattle.rounds.proofs.game.play_with.Given as goal

-- some rounds have led here; the calls of the rounds from here, after those so far, are those of
-- the game
pub record Playing (g : goal.Over) (l : goal.Live-loop-play g) : Type 0 where
  pub here : Between
  pub stands : IsAt l.sheets here l.play
  pub rounds : ℕ
  pub reached : AreRounds l.sheets rounds (before_play l.sheets) here
  pub calls :
      (outcome : Result Played PlayFault) (after : _) →
      Makes g.R.Runner.earns l.runner (SomeTimesThen (RoundCalls l.sheets) (Unasked Memory (PlayStops l.sheets)) here
      outcome) after →
      Makes g.R.Runner.earns l.fn.runner (GameCalls l.sheets outcome) after

abbrev pub invariant-loop-play : goal.invariant-loop-play
invariant-loop-play g l = Playing g l

-- each round has a later place than the one before
abbrev pub decreases-loop-play : goal.decreases-loop-play
decreases-loop-play g l = places_ahead l.play
