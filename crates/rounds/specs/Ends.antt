-- How games end. The bankruptcy of a president ends a game at once. A broken bank ends it once the
-- operating rounds of a set are over, whether they were under way as it broke or came next. Nothing
-- follows the end.
use Rattle.std.specs.Prelude.{◌≡◌, ◌⊎◌, ℕ, true, List}
use Rattle.totals.specs.LookBack.{Game, bankrupt_in, broken_in}
use Rattle.rounds.specs.OperatingRound.{TakesTurn}
use Rattle.rounds.specs.Play.{AreRounds, Between, IsRound, Plays, before_play, end_of}
use Rattle.rounds.specs.Sets.{IsOfSet}
use Rattle.rounds.specs.declared.following.Next.TheVariants as next
use Rattle.rounds.specs.declared.game.End.TheVariants.{Bankrupt}
use Rattle.tables.specs.declared.roster.Company.{Company}
use Rattle.tables.specs.declared.round.Round.{Round}
use Rattle.tables.specs.declared.round.Round.TheVariants.{Operating}

-- if a game has ended, no round follows, whatever the sheets say, and it is the game of its file
abbrev pub GamesEndOnce : Type 0
GamesEndOnce =
    (file : List ℕ) (rounds later : ℕ) (ended after : Between)
    → AreRounds file rounds (before_play file) ended → ended.next ≡ next.Ended → AreRounds file later ended after
    → (after ≡ ended) × Plays file ended

-- once a president is bankrupt no company takes a turn
abbrev pub NoTurnAfterBankruptcy : Type 0
NoTurnAfterBankruptcy =
    (file : List ℕ) (round : Round) (company : Company) (old new : Game)
    → bankrupt_in old.events ≡ true → ¬ TakesTurn file round company old new

-- a round in which a president goes bankrupt is the last, and play stops for this, whether or not
-- the bank is broken
abbrev pub BankruptcyEndsGames : Type 0
BankruptcyEndsGames =
    (file : List ℕ) (old new : Between)
    → IsRound file old new → bankrupt_in new.game.events ≡ true
    → (new.next ≡ next.Ended) × (end_of new.next new.game.events ≡ Bankrupt)

-- once the bank is broken and a round of a set comes next, no round of another set ever comes
abbrev pub NoSetAfterBroken : Type 0
NoSetAfterBroken =
    (file : List ℕ) (set later : ℕ) (broken there : Between) (round upcoming : Round)
    → broken_in broken.game.events ≡ true → broken.next ≡ next.Round round → IsOfSet set round
    → AreRounds file later broken there → there.next ≡ next.Round upcoming → IsOfSet set upcoming

-- if the bank is broken after the last operating round of a set, nothing follows
abbrev pub BrokenBankEndsSets : Type 0
BrokenBankEndsSets =
    (file : List ℕ) (set : ℕ) (old new : Between)
    → IsRound file old new → old.next ≡ next.Round (Operating set old.in_set) → broken_in new.game.events ≡ true
    → new.next ≡ next.Ended

-- nothing else ends a game: what was played last left a president bankrupt, or was the last
-- operating round of a set and left the bank broken
abbrev pub NothingElseEndsGames : Type 0
NothingElseEndsGames =
    (file : List ℕ) (rounds : ℕ) (old new : Between)
    → AreRounds file rounds (before_play file) old → IsRound file old new → new.next ≡ next.Ended
    → (bankrupt_in new.game.events ≡ true)
    ⊎ ((broken_in new.game.events ≡ true) × (set : ℕ) × (old.next ≡ next.Round (Operating set old.in_set)))
