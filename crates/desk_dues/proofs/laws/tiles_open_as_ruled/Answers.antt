use Rattle.desk_dues.proofs.Colours.{colours_open, no_other_opens}
use Rattle.desk_dues.proofs.laws.tiles_open_as_ruled.Goals as goal

pub returns-clause-opens : goal.returns-clause-opens
returns-clause-opens c = colours_open

pub returns-clause-no_other : goal.returns-clause-no_other
returns-clause-no_other c = no_other_opens
