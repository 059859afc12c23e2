use Rattle.moves.proofs.TurnLemmas.{other_tokens_refused, tokens_obeyed}
use Rattle.moves.proofs.laws.first_token_is_by_the_list.Goals as goal

pub returns-clause-obeyed : goal.returns-clause-obeyed
returns-clause-obeyed c = tokens_obeyed c.hexes_are_listed_once.ensures.once

pub returns-clause-refused : goal.returns-clause-refused
returns-clause-refused c = other_tokens_refused c.hexes_are_listed_once.ensures.once
