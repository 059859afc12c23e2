use Rattle.privates.proofs.WhoActed.{opening_turns_say}
use Rattle.privates.proofs.laws.opening_turns_say_who_acted.Goals as goal

pub returns : goal.returns
returns c = opening_turns_say
