use Rattle.std.proofs.Common.{refl}
use Rattle.foresight.proofs.ReachedLemmas.{first_turns_reached, heads_reached, opening_goes_on}
use Rattle.foresight.proofs.laws.play_reaches_first_turns.Goals as goal
use Rattle.privates.specs.Turn.{opening_rules}
use Rattle.stock_round.specs.Turn.{stock_rules}

pub returns-clause-opening : goal.returns-clause-opening
returns-clause-opening c = first_turns_reached opening_rules refl opening_goes_on

pub returns-clause-stock : goal.returns-clause-stock
returns-clause-stock c = first_turns_reached stock_rules refl (λ events seat. refl)

pub returns-clause-opening_heads : goal.returns-clause-opening_heads
returns-clause-opening_heads c = heads_reached opening_rules refl opening_goes_on

pub returns-clause-stock_heads : goal.returns-clause-stock_heads
returns-clause-stock_heads c = heads_reached stock_rules refl (λ events seat. refl)
