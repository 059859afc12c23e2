-- A set keeps the number of operating rounds with which it began.
use Rattle.std.specs.Prelude.{◌≡◌, ℕ, ◌≤◌, List}
use Rattle.rounds.specs.Play.{AreRounds, Between, IsRound, before_play, rounds_of_new_set}
use Rattle.rounds.specs.Sequence.{turn_in_set}
use Rattle.rounds.specs.declared.following.Next.TheVariants as next
use Rattle.tables.specs.declared.round.Round.{Round}
use Rattle.tables.specs.declared.round.Round.TheVariants.{Opening, Stock, Operating}

-- the round is one of this set
abbrev pub IsOfSet : ℕ → Round → Type 0
IsOfSet set (Opening number) = ⊥
IsOfSet set (Stock its) = its ≡ set
IsOfSet set (Operating its number) = its ≡ set

-- A set has begun, and a game has reached a round of it. The set has as many operating rounds as
-- the phase in which it began gave it. The round is not past the last of them. If a round of
-- another set comes next, it is the last.
pub record KeepsItsNumber (file : List ℕ) (set : ℕ) (begun there : Between) (round : Round) : Type 0 where
  pub number : there.in_set ≡ rounds_of_new_set begun.game.events
  pub within : turn_in_set round ≤ rounds_of_new_set begun.game.events
  pub whole :
      (after : Between) (later : Round) → IsRound file there after → after.next ≡ next.Round later
      → ¬ IsOfSet set later →
      round ≡ Operating set (rounds_of_new_set begun.game.events)

-- in each game of a file a set keeps its number of operating rounds, from its stock round on as
-- long as the game is in that set
abbrev pub SetsKeepTheirNumber : Type 0
SetsKeepTheirNumber =
    (file : List ℕ) (set rounds later : ℕ) (begun there : Between) (round : Round)
    → AreRounds file rounds (before_play file) begun → begun.next ≡ next.Round (Stock set)
    → AreRounds file later begun there → there.next ≡ next.Round round → IsOfSet set round
    → KeepsItsNumber file set begun there round
