-- Between which rounds a game stopped, or past its last: there the game of its file has stopped,
-- with its events and for its reason. A file has one game, so there is no other such place.
use Rattle.std.specs.Prelude.{◌≡◌}
use Rattle.rounds.specs.Play.{Between, Played, Plays, end_of}

pub record StoppedAt (played : Played) (last : Between) : Type 0 where
  pub plays : Plays played.file last
  pub game : played.game ≡ last.game
  pub end : played.end ≡ end_of last.next last.game.events
