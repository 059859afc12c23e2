use Rattle.history.proofs.Money.{money_stays}
use Rattle.history.proofs.Money.{owner_is_party}
use Rattle.history.proofs.laws.money_of_sound_lists.Goals as goal

pub returns-clause-together : goal.returns-clause-together
returns-clause-together c = λ game sound. money_stays game.seats game.events sound.within

pub returns-clause-owners : goal.returns-clause-owners
returns-clause-owners c = owner_is_party
