-- A game that is played a round at a time. Each step plays the round that comes next, if one does
-- and every seat has a sheet for it; otherwise it returns why play stopped. Once a fault has broken
-- play off, each step returns that fault.
use Rattle.std.specs.Prelude.{◌≡◌, ◌⊎◌, ℕ, zero, suc, ◌<◌, ◌≤◌, true, false, List, [], length, Option, Some, None}
use Rattle.std.specs.Prelude.{Result, Ok, Err, IsOk, ⊤}
use Rattle.totals.specs.LookBack.{Game}
use Rattle.history.specs.Sound.{IsSound}
use Rattle.operating.specs.Calls.{Call}
use Rattle.rounds.specs.GameCalls.{RoundCalls}
use Rattle.rounds.specs.Gifts.{GiftsWait}
use Rattle.rounds.specs.Play.{AreRounds, Between, IsRound, IsToPlay, Plays, before_play, end_of, goes_on}
use Rattle.rounds.specs.Sequence.{places_to_come}
use Rattle.rounds.specs.declared.fault.PlayFault.{PlayFault}
use Rattle.rounds.specs.declared.following.Next.TheVariants as next
use Rattle.rounds.specs.declared.game.End.{End}
use Rattle.rounds.specs.declared.steps.Step.{Step}
use Rattle.rounds.specs.declared.steps.Step.TheVariants.{Played, Ended}
use Rattle.sheets.specs.File.{IsAccepted, players_of}
use Rattle.tables.specs.declared.round.Round.{Round}

-- A play: its file, the two rounds that it is between or the fault that broke it off, and the round
-- that was played last. It also has why play stopped, once a step has returned that.
pub record Underway : Type 0 where
  pub file : List ℕ
  pub there : Result Between PlayFault
  pub last_round : Option Round
  pub outcome : Option End

-- a play in which no step was taken
abbrev pub started : List ℕ → Underway
started file = record { file = file; there = Ok (before_play file); last_round = None; outcome = None }

-- the game between two rounds; none once play was broken off
abbrev pub game_there : Result Between PlayFault → Option Game
game_there (Ok there) = Some there.game
game_there (Err fault) = None

-- the game so far
abbrev pub game_so_far : Underway → Option Game
game_so_far play = game_there play.there

-- how many places are left in the order of rounds
abbrev pub places_there : Result Between PlayFault → ℕ
places_there (Ok there) = places_to_come there.next
places_there (Err fault) = 0

-- how many are left before a play: no step plays a round once there is none
abbrev pub places_ahead : Underway → ℕ
places_ahead play = places_there play.there

-- the round comes next, and every seat has a sheet for it
pub record ComesNext (play : Underway) (round : Round) : Type 0 where
  pub from : Between
  pub there : play.there ≡ Ok from
  pub to_play : IsToPlay play.file from.next round

-- the round that came next was played between them
pub record PlaysNext (old : Underway) (round : Round) (new : Underway) : Type 0 where
  pub from : Between
  pub to : Between
  pub there : old.there ≡ Ok from
  pub played : IsRound old.file from to
  pub is_round : played.round ≡ round
  pub after : new ≡ record { file = old.file; there = Ok to; last_round = Some round; outcome = old.outcome }

-- no round can be played next
pub record IsOver (play : Underway) : Type 0 where
  pub last : Between
  pub there : play.there ≡ Ok last
  pub stopped : goes_on play.file last.next ≡ false

-- why play stopped if no round can be played next
abbrev pub end_there : Result Between PlayFault → Option End
end_there (Ok last) = Some (end_of last.next last.game.events)
end_there (Err fault) = None

-- a step returns that play has stopped, and why; all else stays
pub record Stays (old : Underway) (end : End) (new : Underway) : Type 0 where
  pub over : IsOver old
  pub why : Some end ≡ end_there old.there
  pub after : new ≡ record { file = old.file; there = old.there; last_round = old.last_round; outcome = Some end }

-- a step has returned that play has stopped, and why
pub record HasEnded (play : Underway) : Type 0 where
  pub before : Underway
  pub end : End
  pub stays : Stays before end play

-- a fault has broken play off before, or breaks it off in the round that comes next
abbrev pub BreaksOff : Underway → PlayFault → Underway → Type 0
BreaksOff old fault new =
    ((old.there ≡ Err fault) × (new ≡ old))
    ⊎ ((round : Round) × ComesNext old round
    × (new ≡ record { file = old.file; there = Err fault; last_round = old.last_round; outcome = old.outcome }))

-- a step leads from one play to another, with this result
abbrev pub StepLeads : Underway → Result Step PlayFault → Underway → Type 0
StepLeads old (Ok (Played round)) new = PlaysNext old round new
StepLeads old (Ok (Ended end)) new = Stays old end new
StepLeads old (Err fault) new = BreaksOff old fault new

-- the calls of a step from here to there: those of the round that comes next, if one can be played,
-- otherwise none
abbrev pub CallsBetween : List ℕ → Result Between PlayFault → Result Between PlayFault → List Call → Type 0
CallsBetween file (Ok from) to calls = ((goes_on file from.next ≡ true) × RoundCalls file from to calls)
    ⊎ ((goes_on file from.next ≡ false) × (calls ≡ []))
CallsBetween file (Err fault) to calls = calls ≡ []

-- the calls of a step from one play to another
abbrev pub StepCalls : Underway → Underway → List Call → Type 0
StepCalls old new = CallsBetween old.file old.there new.there

-- a step that plays a round leaves fewer places in the order of rounds, so steps reach an end
abbrev pub ComesNearer : Underway → Result Step PlayFault → Underway → Type 0
ComesNearer old (Ok (Played round)) new = places_ahead new < places_ahead old
ComesNearer old (Ok (Ended end)) new = ⊤
ComesNearer old (Err fault) new = ⊤

-- no fault has broken play off
abbrev pub IsUnbroken : Underway → Type 0
IsUnbroken play = IsOk play.there

-- this many steps, each of which played a round, lead from one play to another
abbrev pub StepsPlay : ℕ → Underway → Underway → Type 0
StepsPlay zero old new = new ≡ old
StepsPlay (suc steps) old new = (mid : Underway) × StepsPlay steps old mid × (round : Round) × PlaysNext mid round new

-- this is between two rounds of the one game of a file, after this many of its rounds; some more
-- lead on to its end
pub record IsUpTo (file : List ℕ) (rounds : ℕ) (there : Between) : Type 0 where
  pub reached : AreRounds file rounds (before_play file) there
  pub later : ℕ
  pub last : Between
  pub ahead : AreRounds file later there last
  pub plays : Plays file last

-- after this many steps from the start the list is that of the file's one game up to this many
-- rounds
abbrev pub StepsPlayTheGame : Type 0
StepsPlayTheGame =
    (file : List ℕ) (steps : ℕ) (play : Underway) → IsAccepted file → StepsPlay steps (started file) play
    → (there : Between) × (play.there ≡ Ok there) × IsUpTo file steps there

-- what holds of the game between two rounds of a play
pub record HasComeTo (file : List ℕ) (there : Between) : Type 0 where
  pub rounds : ℕ
  pub reached : AreRounds file rounds (before_play file) there
  pub players : 3 ≤ length (players_of file)
  pub sound : IsSound there.game
  pub seats : there.game.seats ≡ length (players_of file)
  pub gifts : (round : Round) → there.next ≡ next.Round round → GiftsWait round there.game.events

-- between which rounds a play is if there is no fault
abbrev pub there_unless : Option PlayFault → Between → Result Between PlayFault
there_unless None there = Ok there
there_unless (Some fault) there = Err fault
