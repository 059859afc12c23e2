-- The tiles in the games of files.
use Rattle.std.specs.Prelude.{ℕ, List}
use Rattle.operating.specs.TileLaws.{TilesAreAll}
use Rattle.rounds.specs.Play.{AreRounds, Between, before_play}

-- However many rounds of a file's game were played, the tiles of a number on the map and those in
-- the stock are as many as the manifest has. The stock is short of none.
abbrev pub AllTilesAreThereInEachGame : Type 0
AllTilesAreThereInEachGame =
    (file : List ℕ) (rounds : ℕ) (there : Between) →
    AreRounds file rounds (before_play file) there → TilesAreAll there.game.events
