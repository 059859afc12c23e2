use Rattle.board_state.proofs.Fitting.{faultless_are_fit}
use Rattle.board_state.proofs.laws.faultless_are_fit.Goals as goal

pub returns : goal.returns
returns c = faultless_are_fit
