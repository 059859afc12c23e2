-- A game that is played: a table of at most six seats, and a sound list. What an act leads to is a
-- game again, of the same seats.
use Rattle.std.specs.Prelude.{◌≤◌}
use Rattle.history.specs.Sound.{IsSound}
use Rattle.totals.specs.LookBack.{Game}

-- a game of at most six seats with a sound list
pub record IsGame (game : Game) : Type 0 where
  pub few : game.seats ≤ 6
  pub sound : IsSound game
