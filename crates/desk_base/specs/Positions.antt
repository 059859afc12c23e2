-- A position: the game of a file at a moment between two of its rounds, with all that has happened, what comes next or how
-- it ended, and how many operating rounds the set has.
use Rattle.std.specs.Prelude.{◌≡◌, ℕ, List, Ok, Option, Some}
use Rattle.desk_base.specs.Moments.{IsAfterRound, IsFromStart}
use Rattle.desk_base.specs.Played.{IsGameOf, moment_after}
use Rattle.desk_base.specs.declared.between_rounds.Moment.{Moment}
use Rattle.desk_base.specs.declared.between_rounds.Moment.TheVariants.{Last, After, Before, BeforeLast}
use Rattle.desk_base.specs.declared.positions.PlayedRound.{PlayedRound}
use Rattle.desk_base.specs.declared.positions.Position.{Position}
use Rattle.rounds.specs.Play.{AreRounds, Between, IsToPlay, Played, Plays, before_play, end_of}
use Rattle.rounds.specs.Steps.{Underway}
use Rattle.tables.specs.declared.round.Round.{Round}
use Rattle.totals.specs.LookBack.{round_of}

-- a position is that between two rounds
pub record IsPlace (there : Between) (position : Position) : Type 0 where
  pub game : position.history ≡ there.game
  pub end : position.end ≡ end_of there.next there.game.events
  pub in_set : position.in_set ≡ there.in_set

-- the one game of a file comes to these two rounds, and then plays this round
pub record IsBeforeRound (file : List ℕ) (round : Round) (there : Between) : Type 0 where
  pub rounds : ℕ
  pub reached : AreRounds file rounds (before_play file) there
  pub to_play : IsToPlay file there.next round

-- the round is the last that the game of a file plays
pub record IsLastRound (file : List ℕ) (round : Round) : Type 0 where
  pub played : Played
  pub of_file : IsGameOf file played
  pub last : round_of played.game.events ≡ Some round

-- the game of a file is there before its last round
pub record IsBeforeLast (file : List ℕ) (there : Between) : Type 0 where
  pub round : Round
  pub last : IsLastRound file round
  pub before : IsBeforeRound file round there

-- the game of a file is there at this moment
abbrev pub IsThere : List ℕ → Moment → Between → Type 0
IsThere file Last there = Plays file there
IsThere file (After round) there = IsAfterRound file round there
IsThere file (Before round) there = IsBeforeRound file round there
IsThere file BeforeLast there = IsBeforeLast file there

-- a position is that of the game of a file at this moment
pub record IsAt (file : List ℕ) (moment : Moment) (position : Position) : Type 0 where
  pub sheets : position.sheets.now ≡ file
  pub there : Between
  pub at : IsThere file moment there
  pub place : IsPlace there position

-- a round of the game of a file, the named one or else the last that was played, with the position
-- after it, in which it is the last
pub record IsPlayedRound (file : List ℕ) (asked : Option Round) (its : PlayedRound) : Type 0 where
  pub at : IsAt file (moment_after asked) its.position
  pub last : round_of its.position.history.events ≡ Some its.round
  pub named : (round : Round) → asked ≡ Some round → its.round ≡ round

-- a position is where a play is, if that has come from the start of its file
pub record StandsAt (play : Underway) (position : Position) : Type 0 where
  pub sheets : position.sheets.now ≡ play.file
  pub place : (there : Between) → play.there ≡ Ok there → IsFromStart play.file play → IsPlace there position
