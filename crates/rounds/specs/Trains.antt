-- Trains and phases in the games of files.
use Rattle.std.specs.Prelude.{ℕ, ◌≤◌, List}
use Rattle.totals.specs.Trains.{phase_of}
use Rattle.purchases.specs.TrainLaws.{AllTrainsAreThere}
use Rattle.rounds.specs.Play.{AreRounds, Between, IsRound, before_play}
use Rattle.tables.specs.Train.{index_of_kind}

-- After any rounds of a file's game, the trains of a kind in the bank, its pool and the companies
-- are as many as at first, until they rust. After that there are none. Nobody has a negative number
-- of them.
abbrev pub AllTrainsAreThereInEachGame : Type 0
AllTrainsAreThereInEachGame =
    (file : List ℕ) (rounds : ℕ) (there : Between) →
    AreRounds file rounds (before_play file) there → AllTrainsAreThere there.game.events

-- the phase after a round is the one before it, or a later one
abbrev pub PhasesGoOnInRounds : Type 0
PhasesGoOnInRounds =
    (file : List ℕ) (old new : Between) →
    IsRound file old new → index_of_kind (phase_of old.game.events) ≤ index_of_kind (phase_of new.game.events)
