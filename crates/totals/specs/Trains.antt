-- Trains: where they lie, how many of a kind the bank has sold, and the phase. The bank's own
-- trains have never been sold; those of the bank pool were given back by companies; a train that
-- rusts is removed from the game. The game begins in phase 2, and the first train of a later kind from the bank
-- begins the next phase.
use Rattle.std.specs.Prelude.{◌≡◌, ℕ, Bool, true, false, ◌&&◌, if◌then◌else◌, List, [], ◌∷◌, map, Option, Some, None, ℤ}
use Rattle.std.specs.Prelude.{pos, negsuc, ◌+ℤ◌, ◌≤ℤ◌, ◌≤◌, ◌<◌, unwrap_or}
use Rattle.std.specs.List.{count_by}
use Rattle.events.specs.Event.{phase_set, train_owner_place, train_moved}
use Rattle.events.specs.declared.event.Event.{Event}
use Rattle.events.specs.declared.event.TrainMove.{TrainMove}
use Rattle.events.specs.declared.event.TrainPlace.{TrainPlace}
use Rattle.events.specs.declared.event.TrainPlace.TheVariants as place
use Rattle.events.specs.declared.event.TrainSeller.{TrainSeller}
use Rattle.events.specs.declared.event.TrainSeller.TheVariants as seller
use Rattle.totals.specs.LookBack.{balance, last_said}
use Rattle.tables.specs.Roster.{companies, same_company}
use Rattle.tables.specs.Train.{kinds, same_kind, trains_of}
use Rattle.tables.specs.declared.rolling_stock.Kind.{Kind}
use Rattle.tables.specs.declared.rolling_stock.Kind.TheVariants.{Two}
use Rattle.tables.specs.declared.roster.Company.{Company}

-- two places of trains are the same
abbrev pub same_train_place : TrainPlace → TrainPlace → Bool
same_train_place place.Bank place.Bank = true
same_train_place place.BankPool place.BankPool = true
same_train_place (place.Company a) (place.Company b) = same_company a b
same_train_place place.OutOfPlay place.OutOfPlay = true
same_train_place other another = false

-- a train of a kind reaches a place
abbrev pub train_comes : TrainPlace → Kind → Option TrainMove → Bool
train_comes place kind None = false
train_comes place kind (Some move) = same_kind move.kind kind && same_train_place move.to place

-- a train of a kind goes from a place
abbrev pub train_goes : TrainPlace → Kind → Option TrainMove → Bool
train_goes place kind None = false
train_goes place kind (Some move) = same_kind move.kind kind && same_train_place move.from place

-- a train of any kind goes to a company, or to the bank pool if there is no owner
abbrev pub any_comes : Option Company → Option TrainMove → Bool
any_comes owner None = false
any_comes owner (Some move) = same_train_place move.to (train_owner_place owner)

-- a train of any kind goes from a company, or from the bank pool if there is no owner
abbrev pub any_goes : Option Company → Option TrainMove → Bool
any_goes owner None = false
any_goes owner (Some move) = same_train_place move.from (train_owner_place owner)

-- 1 if a test holds, otherwise 0
abbrev pub one_if : Bool → ℕ
one_if test = if test then 1 else 0

-- how many events add a train, minus how many take one
abbrev pub count_of : (Event → Bool) → (Event → Bool) → List Event → ℤ
count_of comes goes events = balance 0 (λ event. one_if (comes event)) (λ event. one_if (goes event)) events

-- the trains of a kind at a place: what came there minus what went. The bank's own count is
-- negative: minus those that it has sold
abbrev pub trains_at : List Event → TrainPlace → Kind → ℤ
trains_at events place kind = count_of (λ event. train_comes place kind (train_moved event))
    (λ event. train_goes place kind (train_moved event)) events

-- the trains of a kind that a company has, or those of the bank pool if there is no owner
abbrev pub trains_held : List Event → Option Company → Kind → ℤ
trains_held events owner kind = trains_at events (train_owner_place owner) kind

-- the trains of some kinds that a company has, or those of the bank pool if there is no owner
abbrev pub trains_of_kinds : List Event → Option Company → List Kind → ℤ
trains_of_kinds events owner [] = pos 0
trains_of_kinds events owner (kind ∷ others) = trains_held events owner kind +ℤ trains_of_kinds events owner others

-- how many trains a company has, or the bank pool if there is no owner
abbrev pub train_count : List Event → Option Company → ℤ
train_count events owner = trains_of_kinds events owner kinds

-- a number that is not negative: 0 if it is less than 0
abbrev pub at_least_zero : ℤ → ℕ
at_least_zero (pos n) = n
at_least_zero (negsuc n) = 0

-- how many trains of a kind the bank has sold
abbrev pub trains_sold : List Event → Kind → ℕ
trains_sold events kind = count_by (λ event. train_goes place.Bank kind (train_moved event)) events

-- the phase: the last that began, at first that of the 2
abbrev pub phase_of : List Event → Kind
phase_of events = unwrap_or (last_said phase_set events) Two

-- where the trains in play lie that the bank has sold: with the bank pool and the companies
abbrev pub train_owners : List TrainPlace
train_owners = place.BankPool ∷ map place.Company companies

-- the trains of a kind at some places
abbrev pub trains_together : List Event → List TrainPlace → Kind → ℤ
trains_together events [] kind = pos 0
trains_together events (place ∷ others) kind = trains_at events place kind +ℤ trains_together events others kind

-- the trains of a kind in play that the bank has sold
abbrev pub trains_in_play : List Event → Kind → ℤ
trains_in_play events kind = trains_together events train_owners kind

-- the trains of a kind that the bank has sold are those in play and those that have left it
abbrev pub AllTrainsStay : Type 0
AllTrainsStay =
    (events : List Event) (kind : Kind) → trains_in_play events kind +ℤ trains_at events place.OutOfPlay kind
    ≡ pos (trains_sold events kind)

-- nobody has a negative number of trains of a kind, and the bank has sold no more of them than
-- there are
pub record TrainsAreHeld (events : List Event) : Type 0 where
  pub held : (owner : Option Company) (kind : Kind) → pos 0 ≤ℤ trains_held events owner kind
  pub sold : (kind : Kind) (number : ℕ) → (trains_of kind).number ≡ Some number → trains_sold events kind ≤ number

-- a train of the kind is there to be bought: one that the bank has not sold, one of the pool, or
-- one of a company
abbrev pub IsThere : List Event → TrainSeller → Kind → Type 0
IsThere events seller.Bank kind =
    (number : ℕ) → (trains_of kind).number ≡ Some number → trains_sold events kind < number
IsThere events seller.BankPool kind = pos 1 ≤ℤ trains_held events None kind
IsThere events (seller.Company company) kind = pos 1 ≤ℤ trains_held events (Some company) kind
