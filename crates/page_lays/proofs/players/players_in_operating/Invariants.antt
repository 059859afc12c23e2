-- the standing lines of the players so far
use Rattle.page_lays.specs.Players.{AreStandingIn}
use Rattle.page_lays.proofs.players.players_in_operating.Given as goal

abbrev pub invariant-loop-number : goal.invariant-loop-number
invariant-loop-number l = AreStandingIn l.round l.history l.number l.players.items
