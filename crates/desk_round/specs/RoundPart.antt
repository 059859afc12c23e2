-- A round's part of the report of a file: of the round that is asked for, or of the last that was
-- played.
use Rattle.std.specs.Prelude.{◌≡◌, ℕ, true, false, List, Option, Some, ⊤}
use Rattle.desk_base.specs.Played.{IsGameOf, round_asked, was_played}
use Rattle.desk_base.specs.declared.fault.DeskFault.{DeskFault}
use Rattle.desk_base.specs.declared.fault.DeskFault.TheVariants as desk
use Rattle.desk_round.specs.declared.played_game.RoundOfGame.{RoundOfGame}
use Rattle.events.specs.declared.event.Event.{Event}
use Rattle.report.specs.Report.{round_text_of}
use Rattle.rounds.specs.Play.{Played}
use Rattle.tables.specs.declared.round.Round.{Round}

-- the game is that of the file, and the round, which it played, is the one that is asked for, or else
-- its last
pub record IsRoundOfGame (file : List ℕ) (asked : Option Round) (its : RoundOfGame) : Type 0 where
  pub of_file : IsGameOf file its.game
  pub named : round_asked its.game asked ≡ Some its.round
  pub was_played : was_played its.game.game.events its.round ≡ true

-- the text is that of the round that is asked for, in the game of the file, which played it
pub record IsRoundPart (file : List ℕ) (asked : Option Round) (text : List ℕ) : Type 0 where
  pub played : Played
  pub of_file : IsGameOf file played
  pub round : Round
  pub named : round_asked played asked ≡ Some round
  pub was_played : was_played played.game.events round ≡ true
  pub is : text ≡ round_text_of played round

-- there are no turns of a round among these events, for this fault: it was not played, or allocation
-- failed
abbrev pub HasNoTurns : List Event → Round → DeskFault → Type 0
HasNoTurns events round desk.Round = was_played events round ≡ false
HasNoTurns events round desk.Memory = ⊤
HasNoTurns events round (desk.File fault) = ⊥
