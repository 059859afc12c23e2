-- The companies that would be left without a train by the next kind that takes trains from
-- companies, and what each would have to pay.
use Rattle.std.specs.Prelude.{◌&&◌, ℕ, Bool, not, if◌then◌else◌, List, [], ◌∷◌, Option, Some, None, ℤ, pos, ◌-ℤ◌}
use Rattle.std.specs.Int.Signed.{le_z, lt_z}
use Rattle.std.specs.List.{flat_map}
use Rattle.desk_dues.specs.Fall.{next_fall_of}
use Rattle.desk_dues.specs.Raised.{raised_at_most_by}
use Rattle.desk_dues.specs.Then.{cheapest_then, least_then}
use Rattle.desk_dues.specs.declared.danger.Danger.{Danger}
use Rattle.desk_dues.specs.declared.fall.Fall.{Fall}
use Rattle.events.specs.Event.{party_of_company}
use Rattle.events.specs.declared.event.Event.{Event}
use Rattle.forced_purchase.specs.declared.operator.Operator.{Operator}
use Rattle.totals.specs.Bids.{free_cash_of}
use Rattle.totals.specs.LookBack.{Game, cash_of}
use Rattle.totals.specs.Shares.{president_of}
use Rattle.totals.specs.Trains.{train_count, trains_held}
use Rattle.tables.specs.Roster.{companies}
use Rattle.tables.specs.Train.{same_kind, trains_of}
use Rattle.tables.specs.declared.rolling_stock.Kind.{Kind}
use Rattle.tables.specs.declared.roster.Company.{Company}
use Rattle.tables.specs.declared.seat.Seat.{Seat}

-- a company has no train of another kind
abbrev pub has_no_other : List Event → Kind → Company → Bool
has_no_other events kind company =
    le_z (train_count events (Some company)) (trains_held events (Some company) kind)

-- a company has trains of a kind, and no others: it is left without one once they rust
abbrev pub company_left_without : List Event → Kind → Company → Bool
company_left_without events kind company =
    lt_z (pos 0) (trains_held events (Some company) kind) && has_no_other events kind company

-- a company with its president
abbrev pub operator_of : Company → Seat → Operator
operator_of company president = record { company = company; president = president }

-- what a train of a kind costs at the bank and in the pool
abbrev pub price_of_kind : Kind → ℕ
price_of_kind kind = (trains_of kind).price

-- what a company lacks for a train of a kind; less than 0 if it has more than its price
abbrev pub lacking_for : Game → Company → Kind → ℤ
lacking_for game company kind = pos (price_of_kind kind) -ℤ cash_of game.seats game.events (party_of_company company)

-- the president's cash free of bids is less than what the company lacks beyond what they can raise:
-- they would be bankrupt
abbrev pub is_beyond : Game → Operator → Kind → Bool
is_beyond game by kind =
    lt_z (free_cash_of game.seats game.events by.president)
    (lacking_for game by.company kind -ℤ pos (raised_at_most_by game by))

-- a company buys its train from the pool then: the bank sells only later kinds
abbrev pub is_bought_from_pool : List Event → Fall → Kind → Bool
is_bought_from_pool events fall buys = not (same_kind buys (least_then events fall.falls_with))

-- what a company has to pay that is left without a train, for a train of the kind that it buys then
abbrev pub danger_for : Game → Fall → Operator → Kind → Danger
danger_for game fall by buys = record {
  company = by.company;
  president = by.president;
  kind = fall.kind;
  trains = trains_held game.events (Some by.company) fall.kind;
  falls_with = fall.falls_with;
  buys = buys;
  pooled = is_bought_from_pool game.events fall buys;
  price = price_of_kind buys;
  cash = cash_of game.seats game.events (party_of_company by.company);
  lacking = lacking_for game by.company buys;
  presidents_cash = free_cash_of game.seats game.events by.president;
  raised = pos (raised_at_most_by game by);
  bankrupt = is_beyond game by buys;
}

-- the danger to a company that has this president, if it has one
abbrev pub danger_under : Game → Fall → Company → Option Seat → List Danger
danger_under game fall company None = []
danger_under game fall company (Some president) =
    danger_for game fall (operator_of company president) (cheapest_then game.events fall.falls_with) ∷ []

-- the danger to a company, if it is left without a train
unfoldable pub danger_to : Game → Fall → Company → List Danger
danger_to game fall company =
    if company_left_without game.events fall.kind company
    then danger_under game fall company (president_of game.events company)
    else []

-- the dangers to all companies, in the order of the roster
abbrev pub dangers_with : Game → Option Fall → List Danger
dangers_with game None = []
dangers_with game (Some fall) = flat_map (danger_to game fall) companies

-- the companies that the next kind that takes trains would leave without one
abbrev pub dangers_of : Game → List Danger
dangers_of game = dangers_with game (next_fall_of game.events)
