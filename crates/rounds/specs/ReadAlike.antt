-- Files whose sheets are read the same, whether or not their bytes are the same. For a round each
-- seat has a sheet in both or in none, and the lines of its sheets make the same parts. A round is
-- played from these alone.
use Rattle.std.specs.Prelude.{◌≡◌, ℕ, List, is_some}
use Rattle.rounds.specs.Play.{Between, Plays}
use Rattle.sheets.specs.File.{players_of, sheet_of, version_of}
use Rattle.sheets.specs.Part.{parts_for}
use Rattle.tables.specs.declared.round.Round.{Round}

-- the sheets for a round are read the same
pub record ReadAlikeFor (round : Round) (first second : List ℕ) : Type 0 where
  pub posted : (seat : ℕ) → is_some (sheet_of first seat round) ≡ is_some (sheet_of second seat round)
  pub parts : (seat : ℕ) → parts_for first round seat ≡ parts_for second round seat

-- in files of one version the same sheets are read the same
abbrev pub SameSheetsAreReadAlike : Type 0
SameSheetsAreReadAlike =
    (first second : List ℕ) (round : Round) → version_of first ≡ version_of second
    → ((seat : ℕ) → sheet_of first seat round ≡ sheet_of second seat round) → ReadAlikeFor round first second

-- the files have the same players, and their sheets for each round are read the same
pub record AreReadAlike (first second : List ℕ) : Type 0 where
  pub players : players_of first ≡ players_of second
  pub sheets : (round : Round) → ReadAlikeFor round first second

-- if the sheets of two files of the same players are read the same, the game of the one is the game
-- of the other
abbrev pub SamePartsSameGame : Type 0
SamePartsSameGame = (first second : List ℕ) → AreReadAlike first second → (last : Between) → Plays first last
    → Plays second last
