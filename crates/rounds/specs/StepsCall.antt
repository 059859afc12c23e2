-- The calls that the steps of a play make of a runner. Those of one step after those of the other,
-- until play stops, are the calls of the game. Each of them succeeds, since one that fails breaks
-- play off.
use Rattle.std.specs.Prelude.{◌≡◌, ℕ, zero, suc, List, [], ◌++◌, Ok}
use Rattle.operating.specs.Calls.{AreAnswered, Call}
use Rattle.rounds.specs.GameCalls.{GameCalls}
use Rattle.rounds.specs.Play.{Played}
use Rattle.rounds.specs.Steps.{PlaysNext, Stays, StepCalls, Underway, started}
use Rattle.rounds.specs.declared.game.End.{End}
use Rattle.tables.specs.declared.round.Round.{Round}

-- this many steps from the start of a file, each of which played a round, made these calls
abbrev pub StepsCall : ℕ → List ℕ → Underway → List Call → Type 0
StepsCall zero file play calls = (play ≡ started file) × (calls ≡ [])
StepsCall (suc steps) file play calls = (mid : Underway) × (before : List Call) × StepsCall steps file mid before
    × (round : Round) × PlaysNext mid round play × (its : List Call) × StepCalls mid play its × (calls ≡ before ++ its)

-- once play has stopped they are the calls of the game of the file
abbrev pub StepsCallTheGame : Type 0
StepsCallTheGame =
    (file : List ℕ) (steps : ℕ) (last ended : Underway) (end : End) (calls : List Call) →
    StepsCall steps file last calls → Stays last end ended → (played : Played) × GameCalls file (Ok played) calls

-- each call that leads to a game succeeded
abbrev pub GamesAreAnswered : Type 0
GamesAreAnswered =
    (file : List ℕ) (played : Played) (calls : List Call) → GameCalls file (Ok played) calls → AreAnswered calls

-- each call of a step that plays a round succeeded
abbrev pub StepsAreAnswered : Type 0
StepsAreAnswered =
    (old new : Underway) (round : Round) (calls : List Call) →
    PlaysNext old round new → StepCalls old new calls → AreAnswered calls
