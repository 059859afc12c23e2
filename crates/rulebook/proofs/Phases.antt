-- Example for the chapter `new-phase`: the first 4 and the first 5.
-- PRR has a 2, CO two 2s and BM two 3s. NYC buys the first 4: the 2s are removed from the game. Then ERIE, which
-- has two 3s, buys the first 5, while BOB, at seat 1, owns SV: it is closed, and ERIE, with three
-- trains of two, gives up a 3.
use Rattle.std.proofs.Common.{◌≡◌, refl, List, [], ◌∷◌, ◌++◌, Some}
use Rattle.events.specs.declared.event.Event.{Event}
use Rattle.events.specs.declared.event.Event.TheVariants as event
use Rattle.events.specs.declared.event.TrainSeller.TheVariants as seller
use Rattle.purchases.specs.Phases.{with_phase}
use Rattle.tables.specs.Seat.{seat_at}
use Rattle.tables.specs.declared.rolling_stock.Kind.TheVariants.{Two, Three, Four, Five}
use Rattle.tables.specs.declared.roster.Company.TheVariants.{Pennsylvania, NewYorkCentral, ChesapeakeOhio, BostonMaine}
use Rattle.tables.specs.declared.roster.Company.TheVariants.{Erie}
use Rattle.tables.specs.declared.roster.Private.TheVariants.{SchuylkillValley}
use Rattle.totals.specs.LookBack.{Game}

abbrev game : List Event → Game
game events = record { seats = 3; events = events }

abbrev before_the_four : List Event
before_the_four =
    event.Train Pennsylvania Two seller.Bank 80
    ∷ event.Train ChesapeakeOhio Two seller.Bank 80
    ∷ event.Train ChesapeakeOhio Two seller.Bank 80
    ∷ event.Train BostonMaine Three seller.Bank 180
    ∷ event.Train NewYorkCentral Four seller.Bank 300
    ∷ []

pub the_first_four :
    with_phase (game before_the_four) Four
    ≡ game
    (before_the_four
    ++ event.Phase Four
    ∷ event.Rusted (Some Pennsylvania) Two
    ∷ event.Rusted (Some ChesapeakeOhio) Two
    ∷ event.Rusted (Some ChesapeakeOhio) Two
    ∷ [])
the_first_four = refl

abbrev before_the_five : List Event
before_the_five =
    event.Sold SchuylkillValley (seat_at 1) 20
    ∷ event.Train Erie Three seller.Bank 180
    ∷ event.Train Erie Three seller.Bank 180
    ∷ event.Train Erie Five seller.Bank 450
    ∷ []

pub the_first_five :
    with_phase (game before_the_five) Five
    ≡ game
    (before_the_five ++ event.Phase Five ∷ event.Closed SchuylkillValley ∷ event.Discarded Erie Three ∷ [])
the_first_five = refl
