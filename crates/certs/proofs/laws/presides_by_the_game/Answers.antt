use Rattle.certs.proofs.PresidesByGame.{presides_by_game}
use Rattle.certs.proofs.laws.presides_by_the_game.Goals as goal

pub returns : goal.returns
returns c = presides_by_game
