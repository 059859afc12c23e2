-- A round's part of the report of a file.
use Rattle.std.proofs.Common.{◌≡◌, ℕ, true, List, Option, Some}
use Rattle.desk_base.proofs.PlayedLemmas.{has_turns}
use Rattle.desk_base.specs.Played.{HasNoRound, round_asked, was_played}
use Rattle.desk_round.specs.RoundPart.{HasNoTurns, IsRoundOfGame, IsRoundPart}
use Rattle.desk_round.specs.declared.played_game.RoundOfGame.{RoundOfGame}
use Rattle.desk_base.specs.declared.fault.DeskFault.{DeskFault}
use Rattle.desk_base.specs.declared.fault.DeskFault.TheVariants.{File, Round, Memory}
use Rattle.events.specs.declared.event.Event.{Event}
use Rattle.report.specs.Report.{round_text_of}
use Rattle.rounds.specs.Play.{IsTheGame}
use Rattle.tables.specs.declared.round.Round as the_round
use Rattle.totals.specs.LookBack.{round_of}

-- a round that a game of a file played is the one that is asked for
pub is_round_of_game : (its : RoundOfGame) (asked : Option the_round.Round) (file : List ℕ) → its.game.file ≡ file
    → IsTheGame its.game → round_asked its.game asked ≡ Some its.round → was_played its.game.game.events its.round ≡ true
    → IsRoundOfGame file asked its
is_round_of_game its asked file of_file game named was_played =
    record { of_file = record { of_file = of_file; game = game }; named = named; was_played = was_played }

-- its text is that of the round
pub is_round_part : (its : RoundOfGame) (asked : Option the_round.Round) (file text : List ℕ)
    → IsRoundOfGame file asked its → text ≡ round_text_of its.game its.round → IsRoundPart file asked text
is_round_part its asked file text of_game is =
    record {
      played = its.game;
      of_file = of_game.of_file;
      round = its.round;
      named = of_game.named;
      was_played = of_game.was_played;
      is = is;
    }

-- the last round of a game has turns
pub last_has_turns : (fault : DeskFault) (events : List Event) (round : the_round.Round)
    → round_of events ≡ Some round → HasNoTurns events round fault → HasNoRound events fault
last_has_turns Round events round last none = absurd (has_turns events round last none)
last_has_turns Memory events round last none = tt
last_has_turns (File fault) events round last none = absurd none
