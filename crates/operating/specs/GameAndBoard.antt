-- A game and the board of its map, as they go from the turn of one company to that of the next.
use Rattle.std.specs.Prelude.{Result, Ok, Err}
use Rattle.history.specs.Sound.{IsSound}
use Rattle.operating.specs.MapState.{IsPrefix}
use Rattle.operating.specs.declared.game_and_board.GameAndBoard.{GameAndBoard}
use Rattle.totals.specs.LookBack.{Game}

-- the list of the game is sound, and its board has the first of the tiles and tokens that were laid
pub record IsLaidOut (game : GameAndBoard) : Type 0 where
  pub sound : IsSound game.history
  pub prefix : IsPrefix game.board.value game.history.events

-- the game to which a turn has led, if it was not broken off
abbrev pub game_on : {Fault : Type 0} → Result GameAndBoard Fault → Result Game Fault
game_on (Ok game) = Ok game.history
game_on (Err fault) = Err fault
