-- What holds of each company's turn, whether or not it is made to buy a train.
use Rattle.std.specs.Prelude.{◌≡◌, ◌⊎◌, ℕ, true, false, List, [], ◌∷◌, ◌++◌, Some}
use Rattle.board_state.specs.MapState.{position_of}
use Rattle.legal_runs.specs.TwoTrain.{CanRun}
use Rattle.events.specs.declared.event.Event.{Event}
use Rattle.events.specs.declared.event.Event.TheVariants as event
use Rattle.totals.specs.LookBack.{Game, bankrupt_in}
use Rattle.totals.specs.Shares.{president_of}
use Rattle.purchases.specs.Train.{has_trains}
use Rattle.operating.specs.MapState.{map_state_now}
use Rattle.purchases.specs.TrainLaws.{AllTrainsAreThere}
use Rattle.operating.specs.Turn.{IsCompanyTurn}
use Rattle.tables.specs.declared.roster.Company.{Company}
use Rattle.tables.specs.declared.round.Round.{Round}
use Rattle.tables.specs.declared.seat.Seat.{Seat}

-- whoever presides over a company as its turn begins does so at its end: no sale to raise money for
-- it moves its presidency
abbrev pub PresidentStays : Type 0
PresidentStays =
    (file : List ℕ) (round : Round) (company : Company) (old new : Game) →
    IsCompanyTurn file round company old new → president_of new.events company ≡ president_of old.events company

-- the list ends as this seat goes bankrupt, nobody was before, and nothing was bought: the company
-- has no train
pub record EndsBankrupt (game : Game) (company : Company) : Type 0 where
  pub before : List Event
  pub president : Seat
  pub presides : president_of game.events company ≡ Some president
  pub last : game.events ≡ before ++ event.Bankrupt president ∷ []
  pub first : bankrupt_in before ≡ false
  pub none : has_trains game.events company ≡ false

-- if nobody was bankrupt before a company's turn, a bankruptcy in it is its last event: the
-- president of the company is bankrupt, and it has no train
abbrev pub BankruptcyEndsTurns : Type 0
BankruptcyEndsTurns =
    (file : List ℕ) (round : Round) (company : Company) (old new : Game) →
    IsCompanyTurn file round company old new → bankrupt_in old.events ≡ false → bankrupt_in new.events ≡ true →
    EndsBankrupt new company

-- A company that has a president owns a train after its turn, or a president is bankrupt, or it
-- could run no train. All trains must be there before the turn.
abbrev pub TurnsEndWithTrains : Type 0
TurnsEndWithTrains =
    (file : List ℕ) (round : Round) (company : Company) (old new : Game) (president : Seat) →
    AllTrainsAreThere old.events → president_of old.events company ≡ Some president
    → IsCompanyTurn file round company old new →
    (has_trains new.events company ≡ true)
    ⊎ ((bankrupt_in new.events ≡ true) ⊎ (¬ CanRun (position_of (map_state_now new.events)) company))
