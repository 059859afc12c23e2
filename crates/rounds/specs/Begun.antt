-- The rounds that the events of a game begin.
use Rattle.std.specs.Prelude.{◌≡◌, ℕ, true, List, [], ◌∷◌, ◌++◌, Option, Some, None, IsSome, ⊤}
use Rattle.events.specs.Event.{round_begun_by}
use Rattle.events.specs.declared.event.Event.{Event}
use Rattle.events.specs.declared.event.Event.TheVariants as event
use Rattle.totals.specs.LookBack.{Game}
use Rattle.operating.specs.Laws.{BeginsNoRound}
use Rattle.rounds.specs.Play.{Between, IsRound, Plays}
use Rattle.sheets.specs.File.{IsAccepted}
use Rattle.tables.specs.Round.{is_before}
use Rattle.tables.specs.declared.round.Round.{Round}

-- a round before others, if there is one
abbrev pub with_round : Option Round → List Round → List Round
with_round None rounds = rounds
with_round (Some round) rounds = round ∷ rounds

-- the rounds that events begin, in order
abbrev pub rounds_begun : List Event → List Round
rounds_begun [] = []
rounds_begun (event ∷ events) = with_round (round_begun_by event) (rounds_begun events)

-- the first of events begins a round, if there are any
abbrev pub BeginWithRound : List Event → Type 0
BeginWithRound [] = ⊤
BeginWithRound (event ∷ events) = IsSome (round_begun_by event)

-- a round comes before each of these in the order of all rounds
abbrev pub IsBeforeEach : Round → List Round → Type 0
IsBeforeEach round [] = ⊤
IsBeforeEach round (other ∷ others) = (is_before round other ≡ true) × IsBeforeEach round others

-- each round comes before those that follow it
abbrev pub AreInOrder : List Round → Type 0
AreInOrder [] = ⊤
AreInOrder (round ∷ rounds) = IsBeforeEach round rounds × AreInOrder rounds

-- the events of a file's game begin with a round, and the rounds that they begin are in order, so
-- they all differ
abbrev pub RoundsFollowInOrder : Type 0
RoundsFollowInOrder =
    (file : List ℕ) (last : Between)
    → IsAccepted file
    → Plays file last
    → BeginWithRound last.game.events × AreInOrder (rounds_begun last.game.events)

-- a round adds its own ROUND event to the list, and then events none of which begins a round
pub record AddsRound (round : Round) (old new : Game) : Type 0 where
  pub more : List Event
  pub added : new ≡ record { seats = old.seats; events = old.events ++ event.Round round ∷ more }
  pub no_round : BeginsNoRound more

-- each round that is played adds its own ROUND event to the list, and then events none of which
-- begins a round
abbrev pub RoundsOnlyAdd : Type 0
RoundsOnlyAdd =
    (file : List ℕ) (old new : Between) (played : IsRound file old new) → AddsRound played.round old.game new.game
