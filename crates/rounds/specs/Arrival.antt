-- The order in which the sheets of different players arrive.
use Rattle.std.specs.Prelude.{◌≡◌, ℕ, List}
use Rattle.rounds.specs.Play.{Between, Plays}
use Rattle.sheets.specs.File.{players_of, version_of}
use Rattle.sheets.specs.Laws.{SentTheSame}

-- Two files of one version have the same players, and each player sent the same sheets in the same
-- order. Then the game of the one is the game of the other, however the sheets of different players
-- follow one another.
abbrev pub ArrivalChangesNoGame : Type 0
ArrivalChangesNoGame =
    (f g : List ℕ) → version_of f ≡ version_of g → players_of f ≡ players_of g → SentTheSame f g
    → (last : Between) → Plays f last → Plays g last
