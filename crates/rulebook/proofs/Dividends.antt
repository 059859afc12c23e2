-- Example for the chapter `dividends`: PRR pays 30.
-- PRR is at F7, its par of 67. ANN, at seat 0, has three shares, BOB, at seat 1, two, and one is in
-- the pool. The four of the initial offering are paid nothing, and the token moves right. If PRR
-- withholds, it moves left.
use Rattle.std.proofs.Common.{◌≡◌, refl, List, [], ◌∷◌, ◌++◌}
use Rattle.certs.specs.Dividend.{paid_out}
use Rattle.events.specs.declared.event.Event.{Event}
use Rattle.events.specs.declared.event.Event.TheVariants as event
use Rattle.events.specs.declared.event.Holder.TheVariants as holder
use Rattle.order_grammar.specs.declared.order.ShareSource.TheVariants.{InitialOffering}
use Rattle.tables.specs.Seat.{seat_at}
use Rattle.tables.specs.declared.roster.Company.TheVariants.{Pennsylvania}
use Rattle.totals.specs.LookBack.{Game}

abbrev before : List Event
before =
    event.Par Pennsylvania 67
    ∷ event.Bought Pennsylvania (seat_at 0) 3 InitialOffering 201
    ∷ event.Bought Pennsylvania (seat_at 1) 3 InitialOffering 201
    ∷ event.Sells Pennsylvania (seat_at 1) 1 67
    ∷ []

abbrev game : List Event → Game
game events = record { seats = 3; events = events }

pub prr_pays :
    paid_out (game before) Pennsylvania 30
    ≡ game
    (before
    ++ event.Dividend Pennsylvania (holder.Seat (seat_at 0)) 9
    ∷ event.Dividend Pennsylvania (holder.Seat (seat_at 1)) 6
    ∷ event.Dividend Pennsylvania (holder.Company Pennsylvania) 3
    ∷ event.Moves Pennsylvania (record { row = 5; column = 8 })
    ∷ [])
prr_pays = refl
