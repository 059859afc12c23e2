-- Sheets for later rounds change nothing in the rounds before them.
use Rattle.std.specs.Prelude.{◌≡◌, ℕ, ◌≤◌, List}
use Rattle.rounds.specs.Play.{AreRounds, Between, IsRound, before_play}
use Rattle.rounds.specs.ReadAlike.{ReadAlikeFor}
use Rattle.rounds.specs.declared.following.Next.TheVariants as next
use Rattle.sheets.specs.File.{IsAccepted, players_of}
use Rattle.tables.specs.Round.{rank_of}
use Rattle.tables.specs.declared.round.Round.{Round}

-- the files have the same players, and their sheets for each round up to this one are read the same
pub record AgreeUpTo (last : Round) (first second : List ℕ) : Type 0 where
  pub players : players_of first ≡ players_of second
  pub sheets : (round : Round) → rank_of round ≤ rank_of last → ReadAlikeFor round first second

-- the game of the file reaches this round, and plays it from old to new
pub record PlaysRound (file : List ℕ) (round : Round) (old new : Between) : Type 0 where
  pub rounds : ℕ
  pub before : AreRounds file rounds (before_play file) old
  pub comes : old.next ≡ next.Round round
  pub step : IsRound file old new

-- if two files agree up to a round, and the first plays it, the second plays it too, and the same
-- has happened before it and in it
abbrev pub LaterSheetsChangeNothing : Type 0
LaterSheetsChangeNothing =
    (round : Round) (first second : List ℕ) (old new : Between)
    → IsAccepted first → AgreeUpTo round first second → PlaysRound first round old new → PlaysRound second round old new
