-- The steps of a company's turn, in order.
use Rattle.std.specs.Prelude.{ℕ}
use Rattle.board.specs.declared.turn.TurnStep.{TurnStep}
use Rattle.board.specs.declared.turn.TurnStep.TheVariants.{Lay, Token, Run, Pay, Trains}

-- the number of a step
abbrev pub place_of_step : TurnStep → ℕ
place_of_step Lay = 1
place_of_step Token = 2
place_of_step Run = 3
place_of_step Pay = 4
place_of_step Trains = 5
