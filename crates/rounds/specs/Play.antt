-- The one game of a file: whole rounds in their sequence, each with a sheet of every seat. It goes
-- on until a seat has none for the next round, the sequence has ended since the bank is broken, or
-- a president is bankrupt.
use Rattle.std.specs.Prelude.{◌≡◌, ℕ, zero, suc, Bool, true, false, if◌then◌else◌, List, [], length}
use Rattle.events.specs.declared.event.Event.{Event}
use Rattle.totals.specs.LookBack.{Game, bankrupt_in, broken_in}
use Rattle.totals.specs.Trains.{phase_of}
use Rattle.privates.specs.Opening.{IsOpeningRound}
use Rattle.privates.specs.Turn.{all_sold}
use Rattle.rounds.specs.OperatingRound.{IsOperatingRound}
use Rattle.rounds.specs.Sequence.{following}
use Rattle.rounds.specs.declared.following.Next.{Next}
use Rattle.rounds.specs.declared.following.Next.TheVariants as next
use Rattle.rounds.specs.declared.game.End.{End}
use Rattle.rounds.specs.declared.game.End.TheVariants.{Awaiting, Bank, Bankrupt}
use Rattle.sheets.specs.File.{IsAccepted, all_posted, players_of}
use Rattle.stock_round.specs.StockRound.{IsStockRound}
use Rattle.tables.specs.Train.{rounds_in_set_of}
use Rattle.tables.specs.declared.round.Round.{Round}
use Rattle.tables.specs.declared.round.Round.TheVariants.{Opening, Stock, Operating}

-- a game between two rounds, or past its last: what has happened, how many operating rounds its set
-- has, and the round that comes next, if one does
pub record Between : Type 0 where
  pub game : Game
  pub in_set : ℕ
  pub next : Next

-- how many operating rounds a set has that begins now; the phase decides
abbrev pub rounds_of_new_set : List Event → ℕ
rounds_of_new_set events = rounds_in_set_of (phase_of events)

-- how many the set has, given what comes next: its number is fixed as its stock round comes
abbrev pub in_set_before : Next → List Event → ℕ → ℕ
in_set_before (next.Round (Stock set)) events in_set = rounds_of_new_set events
in_set_before other events in_set = in_set

-- what comes after a round that has led to these events: nothing once a president is bankrupt,
-- otherwise what the sequence says
abbrev pub coming : Round → ℕ → List Event → Next
coming round in_set events = if bankrupt_in events then next.Ended else following round in_set (all_sold events)
    (broken_in events)

-- before the first round
abbrev pub before_play : List ℕ → Between
before_play file = record {
  game = record { seats = length (players_of file); events = [] };
  in_set = rounds_of_new_set [];
  next = next.Round (Opening 1);
}

-- a round comes next, and every seat has a sheet for it
abbrev pub goes_on : List ℕ → Next → Bool
goes_on file (next.Round round) = all_posted file round
goes_on file next.Ended = false

-- this is that round
pub record IsToPlay (file : List ℕ) (upcoming : Next) (round : Round) : Type 0 where
  pub comes : upcoming ≡ next.Round round
  pub posted : all_posted file round ≡ true

-- the round was played, by its kind
abbrev pub IsPlayed : List ℕ → Round → Game → Game → Type 0
IsPlayed file (Opening number) old new = IsOpeningRound file (Opening number) old new
IsPlayed file (Stock set) old new = IsStockRound file (Stock set) old new
IsPlayed file (Operating set number) old new = IsOperatingRound file (Operating set number) old new

-- one round was played between them
pub record IsRound (file : List ℕ) (old new : Between) : Type 0 where
  pub round : Round
  pub comes : old.next ≡ next.Round round
  pub posted : all_posted file round ≡ true
  pub played : IsPlayed file round old.game new.game
  pub next_then : new.next ≡ coming round old.in_set new.game.events
  pub in_set_then : new.in_set ≡ in_set_before new.next new.game.events old.in_set

-- this many rounds were played between them
abbrev pub AreRounds : List ℕ → ℕ → Between → Between → Type 0
AreRounds file zero old new = old ≡ new
AreRounds file (suc rounds) old new = (mid : Between) × AreRounds file rounds old mid × IsRound file mid new

-- the game of the file ends so
pub record Plays (file : List ℕ) (last : Between) : Type 0 where
  pub rounds : ℕ
  pub reached : AreRounds file rounds (before_play file) last
  pub stopped : goes_on file last.next ≡ false

-- why play stopped after these events, given what comes next
abbrev pub end_of : Next → List Event → End
end_of (next.Round round) events = Awaiting round
end_of next.Ended events = if bankrupt_in events then Bankrupt else Bank

-- a game as it was played: its file, its events, and why play stopped
pub record Played : Type 0 where
  pub file : List ℕ
  pub game : Game
  pub end : End

-- the game is that of its file
pub record IsTheGame (played : Played) : Type 0 where
  pub last : Between
  pub plays : Plays played.file last
  pub game : played.game ≡ last.game
  pub end : played.end ≡ end_of last.next last.game.events

-- a file has at most one game
abbrev pub OneGame : Type 0
OneGame = (file : List ℕ) (a b : Between) → Plays file a → Plays file b → a ≡ b

-- each file that is not refused has a game
abbrev pub SomeGame : Type 0
SomeGame = (file : List ℕ) → IsAccepted file → (last : Between) × Plays file last
