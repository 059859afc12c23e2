-- A game at a moment between two rounds: what it shows of a play, and which round it comes after.
use Rattle.std.specs.Prelude.{◌≡◌, ◌≤◌, ⊤, Bool, false, ℕ, List, Option, Some, None, Ok}
use Rattle.desk_base.specs.SetNumber.{end_after, number_in_set}
use Rattle.desk_base.specs.declared.between_rounds.Stood.{Stood}
use Rattle.events.specs.declared.event.Event.{Event}
use Rattle.rounds.specs.Play.{AreRounds, Between, IsRound, before_play, end_of}
use Rattle.rounds.specs.Steps.{ComesNext, StepsPlay, Underway, game_so_far, started}
use Rattle.rounds.specs.declared.game.End.{End}
use Rattle.rounds.specs.declared.game.End.TheVariants.{Awaiting}
use Rattle.sheets.specs.Laws.{number_of}
use Rattle.tables.specs.Round.{number_most, same_round}
use Rattle.tables.specs.declared.round.Round.{Round}
use Rattle.tables.specs.declared.round.Round.TheVariants.{Opening}

-- what comes after these events, or how the game ended: as a step has returned, or what follows the round that was played
-- last, or the first round
abbrev pub end_shown : Option End → Option Round → List Event → End
end_shown (Some end) last events = end
end_shown None (Some round) events = end_after round events
end_shown None None events = Awaiting (Opening 1)

-- a round has a number that a sheet may name
abbrev pub IsNumbered : Option Round → Type 0
IsNumbered None = ⊤
IsNumbered (Some round) = number_of round ≤ number_most

-- a play has come from the start of a file, by steps each of which played a round
pub record IsFromStart (file : List ℕ) (play : Underway) : Type 0 where
  pub rounds : ℕ
  pub steps : StepsPlay rounds (started file) play

-- a state shows a game between two rounds: all that has happened, what comes next or how the game ended, and how many
-- operating rounds the set has
pub record ShowsBetween (there : Between) (stood : Stood) : Type 0 where
  pub game : stood.history.now ≡ there.game
  pub end : stood.end ≡ end_of there.next there.game.events
  pub in_set : stood.in_set ≡ there.in_set

-- a state shows a play: its file, all that has happened, what comes next, and how many operating rounds the set has; if it
-- has come from the start, these are those of the place that it has reached
pub record StandsIn (play : Underway) (stood : Stood) : Type 0 where
  pub file : stood.sheets.now ≡ play.file
  pub game : game_so_far play ≡ Some stood.history.now
  pub end : IsNumbered play.last_round → stood.end ≡ end_shown play.outcome play.last_round stood.history.now.events
  pub in_set : stood.in_set ≡ number_in_set stood.end stood.history.now.events
  pub there : (there : Between) → play.there ≡ Ok there → IsFromStart play.file play → ShowsBetween there stood

-- the round that was played last is this
abbrev pub is_last : Option Round → Round → Bool
is_last None asked = false
is_last (Some round) asked = same_round round asked

-- a game awaits this round
abbrev pub is_awaited : End → Round → Bool
is_awaited (Awaiting round) asked = same_round round asked
is_awaited other asked = false

-- a place in the one game of a file, reached as this round was played
pub record IsAfterRound (file : List ℕ) (round : Round) (there : Between) : Type 0 where
  pub rounds : ℕ
  pub before : Between
  pub reached : AreRounds file rounds (before_play file) before
  pub played : IsRound file before there
  pub is_round : played.round ≡ round

-- a play has come from the start of a file, and has just played this round
pub record IsBehind (file : List ℕ) (asked : Round) (play : Underway) : Type 0 where
  pub file_is : play.file ≡ file
  pub from_start : IsFromStart file play
  pub there : Between
  pub at : play.there ≡ Ok there
  pub after : IsAfterRound file asked there

-- a play has come from the start of a file to where this round comes next, and each seat has a sheet for it
pub record IsBefore (file : List ℕ) (asked : Round) (play : Underway) : Type 0 where
  pub file_is : play.file ≡ file
  pub from_start : IsFromStart file play
  pub next : ComesNext play asked
