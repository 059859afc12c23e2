-- Example for the chapter `trains-and-phases`: the phase, and what is left of the trains.
-- PRR buys a 2 and NYC the first 3.
use Rattle.std.proofs.Common.{◌≡◌, refl, pos, List, [], ◌∷◌, Some}
use Rattle.events.specs.declared.event.Event.{Event}
use Rattle.events.specs.declared.event.Event.TheVariants as event
use Rattle.events.specs.declared.event.TrainSeller.TheVariants as seller
use Rattle.tables.specs.Train.{limit_of, rounds_in_set_of}
use Rattle.tables.specs.declared.rolling_stock.Kind.TheVariants.{Two, Three, Five}
use Rattle.tables.specs.declared.roster.Company.TheVariants.{Pennsylvania, NewYorkCentral}
use Rattle.totals.specs.Trains.{phase_of, trains_held, trains_sold}

abbrev happened : List Event
happened =
    event.Train Pennsylvania Two seller.Bank 80
    ∷ event.Train NewYorkCentral Three seller.Bank 180
    ∷ event.Phase Three
    ∷ []

pub phase_three : phase_of happened ≡ Three
phase_three = refl

pub before_any_train : phase_of [] ≡ Two
before_any_train = refl

pub prr_has_a_two : trains_held happened (Some Pennsylvania) Two ≡ pos 1
prr_has_a_two = refl

pub one_two_is_sold : trains_sold happened Two ≡ 1
one_two_is_sold = refl

-- in phase 5 a company has two trains at most, and a set has three operating rounds
pub two_trains : limit_of Five ≡ 2
two_trains = refl

pub three_rounds : rounds_in_set_of Five ≡ 3
three_rounds = refl
