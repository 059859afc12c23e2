-- The rounds that a game played: those that an event of it begins. So when a call that is asked for a
-- round, or for a moment of the game, fails with each fault.
use Rattle.std.specs.Prelude.{◌≡◌, ℕ, Bool, true, false, List, Option, Some, None, ⊤}
use Rattle.std.specs.List.{list_any}
use Rattle.desk_base.specs.Refusal.{HasNone}
use Rattle.desk_base.specs.declared.between_rounds.Moment.{Moment}
use Rattle.desk_base.specs.declared.between_rounds.Moment.TheVariants.{Last, After, Before, BeforeLast}
use Rattle.desk_base.specs.declared.fault.DeskFault.{DeskFault}
use Rattle.desk_base.specs.declared.fault.DeskFault.TheVariants as desk
use Rattle.events.specs.Event.{round_begun_by}
use Rattle.events.specs.declared.event.Event.{Event}
use Rattle.rounds.specs.Play.{IsTheGame, Played}
use Rattle.rounds.specs.Steps.{Underway, game_so_far}
use Rattle.tables.specs.Round.{same_round}
use Rattle.tables.specs.declared.round.Round.{Round}
use Rattle.totals.specs.LookBack.{round_of}

-- a round, if there is one, is this one
abbrev pub is_round : Round → Option Round → Bool
is_round round None = false
is_round round (Some begun) = same_round begun round

-- an event begins a round
abbrev pub begins : Round → Event → Bool
begins round event = is_round round (round_begun_by event)

-- a round was played
abbrev pub was_played : List Event → Round → Bool
was_played events round = list_any (begins round) events

-- the round that is asked for was played, if there is one to be asked for
abbrev pub is_played : List Event → Option Round → Bool
is_played events None = false
is_played events (Some round) = was_played events round

-- the game that was played is that of the file
pub record IsGameOf (file : List ℕ) (played : Played) : Type 0 where
  pub of_file : played.file ≡ file
  pub game : IsTheGame played

-- the round that is asked for; the last of the game, where none is
abbrev pub round_asked : Played → Option Round → Option Round
round_asked played None = round_of played.game.events
round_asked played (Some round) = Some round

-- the round that is asked for was not played, or no round is there to be asked for
abbrev pub IsNotPlayed : Played → Option Round → Type 0
IsNotPlayed played asked = is_played played.game.events asked ≡ false

-- the round that is asked for was not played in the game of the file
pub record IsNotPlayedIn (file : List ℕ) (asked : Option Round) : Type 0 where
  pub played : Played
  pub of_file : IsGameOf file played
  pub none : IsNotPlayed played (round_asked played asked)

-- a round was played in the game of the file
pub record IsPlayedIn (file : List ℕ) (round : Round) : Type 0 where
  pub played : Played
  pub of_file : IsGameOf file played
  pub is : was_played played.game.events round ≡ true

-- when each fault comes if a round is asked for: the round is not played; the file is refused by that
-- fault; allocation may fail at any time
abbrev pub IsRoundFault : List ℕ → Option Round → DeskFault → Type 0
IsRoundFault file asked desk.Round = IsNotPlayedIn file asked
IsRoundFault file asked fault = HasNone fault file

-- the game of the file has no such moment: the round was not played, or none was
abbrev pub LacksMoment : List ℕ → Moment → Type 0
LacksMoment file Last = ⊥
LacksMoment file (After round) = IsNotPlayedIn file (Some round)
LacksMoment file (Before round) = IsNotPlayedIn file (Some round)
LacksMoment file BeforeLast = IsNotPlayedIn file None

-- when each fault comes if a moment is asked for
abbrev pub IsMomentFault : List ℕ → Moment → DeskFault → Type 0
IsMomentFault file moment desk.Round = LacksMoment file moment
IsMomentFault file moment fault = HasNone fault file

-- no round has begun by these events, for this fault; or allocation failed
abbrev pub HasNoRound : List Event → DeskFault → Type 0
HasNoRound events desk.Round = round_of events ≡ None
HasNoRound events desk.Memory = ⊤
HasNoRound events (desk.File fault) = ⊥

-- the moment after a round, or the last, if none is named
abbrev pub moment_after : Option Round → Moment
moment_after None = Last
moment_after (Some round) = After round

-- a play shows no game, for this fault: it was broken off, or allocation failed
abbrev pub ShowsNone : Underway → DeskFault → Type 0
ShowsNone play desk.Round = game_so_far play ≡ None
ShowsNone play desk.Memory = ⊤
ShowsNone play (desk.File fault) = ⊥
