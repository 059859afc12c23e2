-- Example for the chapter `companies`: a president, counted certificates, and a float.
-- BOB, at seat 1, has CS and CA, and with CA a share of PRR. ANN starts PRR at 67 with two shares.
-- BOB buys two more.
use Rattle.std.proofs.Common.{◌≡◌, refl, pos, true, List, [], ◌∷◌, ◌++◌}
use Rattle.certs.specs.Counted.{counted_of}
use Rattle.certs.specs.President.{successor_of}
use Rattle.events.specs.declared.event.Event.{Event}
use Rattle.events.specs.declared.event.Event.TheVariants as event
use Rattle.events.specs.declared.event.Shareholder.TheVariants as place
use Rattle.order_grammar.specs.declared.order.ShareSource.TheVariants.{InitialOffering}
use Rattle.stock_round.specs.Float.{with_float}
use Rattle.tables.specs.Seat.{seat_at}
use Rattle.tables.specs.declared.roster.Company.TheVariants.{Pennsylvania}
use Rattle.tables.specs.declared.roster.Private.TheVariants.{ChamplainStLawrence, CamdenAmboy}
use Rattle.totals.specs.LookBack.{Game}
use Rattle.totals.specs.Shares.{is_started, shares_of}

abbrev happened : List Event
happened =
    event.Sold ChamplainStLawrence (seat_at 1) 40
    ∷ event.Sold CamdenAmboy (seat_at 1) 160
    ∷ event.Given Pennsylvania (seat_at 1) 1
    ∷ event.Par Pennsylvania 67
    ∷ event.Bought Pennsylvania (seat_at 0) 2 InitialOffering 134
    ∷ event.President Pennsylvania (seat_at 0)
    ∷ event.Bought Pennsylvania (seat_at 1) 1 InitialOffering 67
    ∷ []

-- PRR is started, and six of its shares are left in the initial offering
pub prr_is_started : is_started happened Pennsylvania ≡ true
prr_is_started = refl

pub six_are_left : shares_of happened Pennsylvania place.InitialOffering ≡ pos 6
six_are_left = refl

-- BOB has as many as ANN, who stays president; with one more BOB would preside
pub ann_stays : successor_of 3 happened Pennsylvania (seat_at 0) ≡ seat_at 0
ann_stays = refl

pub bob_would_preside :
    successor_of 3 (happened ++ event.Bought Pennsylvania (seat_at 1) 1 InitialOffering 67 ∷ []) Pennsylvania (seat_at 0)
    ≡ seat_at 1
bob_would_preside = refl

-- ANN's two shares are one certificate. BOB's two are two, and CS and CA are one each.
pub anns_certificates : counted_of happened (seat_at 0) ≡ pos 1
anns_certificates = refl

pub bobs_certificates : counted_of happened (seat_at 1) ≡ pos 4
bobs_certificates = refl

-- with two more shares sold four are left, and the bank pays PRR 670
abbrev with_two_more : List Event
with_two_more = happened ++ event.Bought Pennsylvania (seat_at 2) 2 InitialOffering 134 ∷ []

abbrev game : List Event → Game
game events = record { seats = 3; events = events }

pub prr_floats :
    with_float (game with_two_more) Pennsylvania ≡ game (with_two_more ++ event.Floats Pennsylvania 670 ∷ [])
prr_floats = refl

-- before that it does not
pub not_yet : with_float (game happened) Pennsylvania ≡ game happened
not_yet = refl
