-- Laws of trains. Phases never go back. Until they rust, the trains of a kind with the bank, in its
-- pool and with the companies are as many as there were at first. After that there are none.
use Rattle.std.specs.Prelude.{◌≡◌, ℕ, ◌<◌, ◌≤◌, Bool, true, false, not, nat_lt, List, [], ◌∷◌, ◌++◌, Option, Some, None}
use Rattle.std.specs.Prelude.{ℤ, pos, ◌+ℤ◌, ◌-ℤ◌}
use Rattle.events.specs.Event.{phase_set, train_moved}
use Rattle.events.specs.declared.event.Event.{Event}
use Rattle.totals.specs.LookBack.{Game}
use Rattle.totals.specs.Trains.{TrainsAreHeld, phase_of, trains_in_play, trains_sold}
use Rattle.purchases.specs.Train.{after_train, train_judgement}
use Rattle.purchases.specs.declared.train.TrainPurchase.{TrainPurchase}
use Rattle.tables.specs.Train.{index_of_kind, rusting_of, trains_of}
use Rattle.tables.specs.declared.rolling_stock.Kind.{Kind}
use Rattle.tables.specs.declared.roster.Company.{Company}

-- after the purchase of a train the phase is the same or a later one
abbrev pub PhasesGoOn : Type 0
PhasesGoOn =
    (game : Game) (buyer : Company) (purchase : TrainPurchase) →
    index_of_kind (phase_of game.events) ≤ index_of_kind (phase_of (after_train game buyer purchase).events)

-- the first train of this kind has come by a phase, if it is that of a kind
abbrev pub has_come : Kind → Option Kind → Bool
has_come phase None = false
has_come phase (Some rusting) = not (nat_lt (index_of_kind phase) (index_of_kind rusting))

-- the trains of a kind have rusted
abbrev pub have_rusted : List Event → Kind → Bool
have_rusted events kind = has_come (phase_of events) (rusting_of kind)

-- the trains of a kind that are with the bank, in its pool and with the companies, if there were
-- this many at first
abbrev pub trains_there : List Event → Kind → ℕ → ℤ
trains_there events kind number = (pos number -ℤ pos (trains_sold events kind)) +ℤ trains_in_play events kind

-- They are as many as there were at first until they rust, and none after. The bank has sold each
-- kind in its turn. The phase is that of the latest kind that it has sold. It sells a 3, 4, 5 or 6
-- or a D once all trains of each earlier kind but the 6 are sold.
pub record TrainsAreAll (events : List Event) : Type 0 where
  pub until : (kind : Kind) (number : ℕ) → (trains_of kind).number ≡ Some number → have_rusted events kind ≡ false
      → trains_there events kind number ≡ pos number
  pub after : (kind : Kind) (number : ℕ) → (trains_of kind).number ≡ Some number → have_rusted events kind ≡ true
      → trains_there events kind number ≡ pos 0
  pub begun : 0 < index_of_kind (phase_of events) → 0 < trains_sold events (phase_of events)
  pub latest : (kind : Kind) → 0 < trains_sold events kind → index_of_kind kind ≤ index_of_kind (phase_of events)
  pub in_order : (earlier later : Kind) (number : ℕ) → (trains_of earlier).number ≡ Some number
      → index_of_kind earlier < 4 → index_of_kind earlier < index_of_kind later → 0 < trains_sold events later
      → trains_sold events earlier ≡ number

-- the trains of a kind are as many as they should be, and nobody has a negative number
pub record AllTrainsAreThere (events : List Event) : Type 0 where
  pub held : TrainsAreHeld events
  pub all : TrainsAreAll events

-- at first the trains of a kind are as many as they should be
abbrev pub AllTrainsAreThereAtFirst : Type 0
AllTrainsAreThereAtFirst = AllTrainsAreThere []

-- after each event by which no train moves and no phase begins they are still as many
abbrev pub OthersKeepAll : Type 0
OthersKeepAll =
    (events : List Event) (event : Event) → train_moved event ≡ None → phase_set event ≡ None → TrainsAreAll events
    → TrainsAreAll (events ++ event ∷ [])

-- after such an event nobody has a negative number
abbrev pub OthersKeepStanding : Type 0
OthersKeepStanding =
    (events : List Event) (event : Event) → train_moved event ≡ None → phase_set event ≡ None → AllTrainsAreThere events
    → AllTrainsAreThere (events ++ event ∷ [])

-- after the purchase of a train by the rules they are still as many
abbrev pub PurchasesKeepAll : Type 0
PurchasesKeepAll =
    (game : Game) (buyer : Company) (purchase : TrainPurchase) →
    train_judgement game buyer purchase ≡ None → AllTrainsAreThere game.events
    → AllTrainsAreThere (after_train game buyer purchase).events
