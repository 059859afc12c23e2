-- The calls that the steps of a play make of a runner, up to the step that a fault breaks off.
-- Joined, they are those of a game that this fault breaks off.
use Rattle.std.specs.Prelude.{ℕ, List, ◌++◌, Err}
use Rattle.operating.specs.Calls.{Call}
use Rattle.rounds.specs.GameCalls.{GameCalls}
use Rattle.rounds.specs.Steps.{BreaksOff, StepCalls, Underway}
use Rattle.rounds.specs.StepsCall.{StepsCall}
use Rattle.rounds.specs.declared.fault.PlayFault.{PlayFault}

abbrev pub BrokenStepsCallABrokenGame : Type 0
BrokenStepsCallABrokenGame =
    (file : List ℕ) (steps : ℕ) (last broken : Underway) (fault : PlayFault) (calls its : List Call) →
    StepsCall steps file last calls → BreaksOff last fault broken → StepCalls last broken its
    → GameCalls file (Err fault) (calls ++ its)
