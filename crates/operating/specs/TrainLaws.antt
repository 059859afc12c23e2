-- Laws of trains in a company's turn: phases never go back, and the trains that are there stay as
-- many until they rust.
use Rattle.std.specs.Prelude.{ℕ, ◌≤◌, List}
use Rattle.totals.specs.LookBack.{Game}
use Rattle.totals.specs.Trains.{phase_of}
use Rattle.operating.specs.Turn.{IsCompanyTurn}
use Rattle.purchases.specs.TrainLaws.{AllTrainsAreThere}
use Rattle.tables.specs.Train.{index_of_kind}
use Rattle.tables.specs.declared.roster.Company.{Company}
use Rattle.tables.specs.declared.round.Round.{Round}

-- after a company's turn the phase is the same or a later one
abbrev pub PhasesGoOnInTurns : Type 0
PhasesGoOnInTurns =
    (file : List ℕ) (round : Round) (company : Company) (old new : Game) →
    IsCompanyTurn file round company old new → index_of_kind (phase_of old.events) ≤ index_of_kind (phase_of new.events)

-- if all trains are there before a company's turn, they are there after it
abbrev pub TurnsKeepAll : Type 0
TurnsKeepAll =
    (file : List ℕ) (round : Round) (company : Company) (old new : Game) →
    IsCompanyTurn file round company old new → AllTrainsAreThere old.events → AllTrainsAreThere new.events
