use Rattle.moves.proofs.TurnLemmas.{lays_obeyed, other_lays_refused}
use Rattle.moves.proofs.laws.first_lay_is_by_the_list.Goals as goal

pub returns-clause-obeyed : goal.returns-clause-obeyed
returns-clause-obeyed c = lays_obeyed c.hexes_are_listed_once.ensures.once c.tiles_are_listed_once.ensures.once

pub returns-clause-refused : goal.returns-clause-refused
returns-clause-refused c = other_lays_refused c.hexes_are_listed_once.ensures.once c.tiles_are_listed_once.ensures.once
