use Rattle.std.proofs.Common.{ap, sym, ◌∙◌}
use Rattle.totals.specs.LookBack.{cheapest_of}
use Rattle.totals.proofs.look_back.GameView.owners.Goals as goal

pub returns-in-None-clause-cheapest : goal.returns-in-None-clause-cheapest
returns-in-None-clause-cheapest c = c.unsold.ensures.cheapest ∙ sym (ap cheapest_of c.in-None.ensures.totals)
