-- Example for the chapter `forced-purchase`: a president sells to pay for a train, and one cannot.
-- PRR must buy a train. It has 50, and a 2 costs 80. ANN, at seat 0, presides with three shares of
-- it, and BOB, at seat 1, has three, too. She has paid this much for DH in an auction, and may have
-- bought a share of NYC, which is at A7, its par of 100. In the first game she has 20 left and that
-- share, in the second 20 and none.
use Rattle.std.proofs.Common.{◌≡◌, refl, ℕ, Bool, true, false, List, [], ◌∷◌, ◌++◌, None, Ok}
use Rattle.std.proofs.Common.{if◌then◌else◌}
use Rattle.certs.specs.Sale.{is_not_held, is_over_five, must_stay, sale_judgement}
use Rattle.events.specs.declared.event.Event.{Event}
use Rattle.events.specs.declared.event.Event.TheVariants as event
use Rattle.events.specs.declared.event.TrainSeller.TheVariants as seller
use Rattle.events.specs.declared.ruling.Ruling.TheVariants.{Obeyed}
use Rattle.forced_purchase.specs.Forced.{after_forced, concluded, next_to_sell, sold_further, sold_singly, with_aid}
use Rattle.forced_purchase.specs.Raise.{raise_judgement, raised_sale_judgement}
use Rattle.forced_purchase.specs.Shortfall.{cheapest, falls_short, first_on_sale, lack_of}
use Rattle.forced_purchase.specs.declared.operator.Operator.{Operator}
use Rattle.order_grammar.specs.declared.order.Order.TheVariants as order
use Rattle.order_grammar.specs.declared.order.ShareSource.TheVariants.{InitialOffering}
use Rattle.order_grammar.specs.declared.play.PlayOrder.TheVariants as play
use Rattle.sheets.specs.Part.{Numbered}
use Rattle.tables.specs.Seat.{seat_at}
use Rattle.tables.specs.declared.rolling_stock.Kind.TheVariants.{Two}
use Rattle.tables.specs.declared.roster.Company.TheVariants.{Pennsylvania, NewYorkCentral}
use Rattle.tables.specs.declared.roster.Private.TheVariants.{ChamplainStLawrence, DelawareHudson, MohawkHudson}
use Rattle.tables.specs.declared.roster.Private.TheVariants.{CamdenAmboy}
use Rattle.tables.specs.declared.round.Round.TheVariants.{Operating}
use Rattle.totals.specs.LookBack.{Game}

-- what happened before, by what ANN paid for DH, and whether she bought a share of NYC
abbrev before : ℕ → Bool → List Event
before paid has_nyc =
    (event.Sold DelawareHudson (seat_at 0) paid
    ∷ event.Par Pennsylvania 67
    ∷ event.Bought Pennsylvania (seat_at 0) 3 InitialOffering 201
    ∷ event.President Pennsylvania (seat_at 0)
    ∷ event.Bought Pennsylvania (seat_at 1) 3 InitialOffering 201
    ∷ event.Floats Pennsylvania 670
    ∷ event.Par NewYorkCentral 100
    ∷ event.Bought NewYorkCentral (seat_at 2) 2 InitialOffering 200
    ∷ event.President NewYorkCentral (seat_at 2)
    ∷ [])
    ++ (if has_nyc then event.Bought NewYorkCentral (seat_at 0) 1 InitialOffering 100 ∷ [] else [])
    ++ event.Round (Operating 2 1)
    ∷ event.PrivateBought CamdenAmboy Pennsylvania (seat_at 1) 320
    ∷ event.PrivateBought MohawkHudson Pennsylvania (seat_at 1) 220
    ∷ event.PrivateBought ChamplainStLawrence Pennsylvania (seat_at 1) 80
    ∷ []

abbrev game : List Event → Game
game events = record { seats = 3; events = events }

-- PRR under ANN
abbrev ann : Operator
ann = record { company = Pennsylvania; president = seat_at 0 }

-- the one line of PRR's orders: RAISE NYC 1
abbrev raise_nyc : Numbered
raise_nyc = record { number = 2; condition = None; reading = Ok (order.Play (play.Raise NewYorkCentral 1)) }

-- she sells the share for 100, adds the 30 that PRR lacks, and PRR buys the 2
pub ann_raises :
    after_forced ann (raise_nyc ∷ []) (game (before 479 true))
    ≡ game
    (before 479 true
    ++ event.Forced Pennsylvania
    ∷ event.Ruled (seat_at 0) 2 (Obeyed None (order.Play (play.Raise NewYorkCentral 1)))
    ∷ event.Sells NewYorkCentral (seat_at 0) 1 100
    ∷ event.Moves NewYorkCentral (record { row = 1; column = 7 })
    ∷ event.Aid (seat_at 0) Pennsylvania 30
    ∷ event.Train Pennsylvania Two seller.Bank 80
    ∷ [])
unfolding after_forced concluded with_aid sold_singly sold_further next_to_sell falls_short lack_of cheapest
    first_on_sale raise_judgement raised_sale_judgement sale_judgement is_not_held is_over_five must_stay
ann_raises = refl

-- without the line she sells it all the same. Of PRR she may sell none, since BOB would then have
-- strictly more.
pub ann_must_sell :
    after_forced ann [] (game (before 479 true))
    ≡ game
    (before 479 true
    ++ event.Forced Pennsylvania
    ∷ event.Sells NewYorkCentral (seat_at 0) 1 100
    ∷ event.Moves NewYorkCentral (record { row = 1; column = 7 })
    ∷ event.Aid (seat_at 0) Pennsylvania 30
    ∷ event.Train Pennsylvania Two seller.Bank 80
    ∷ [])
unfolding after_forced concluded with_aid sold_singly sold_further next_to_sell falls_short lack_of cheapest
    first_on_sale raise_judgement raised_sale_judgement sale_judgement is_not_held is_over_five must_stay
ann_must_sell = refl

-- without the share she is bankrupt
pub ann_is_bankrupt :
    after_forced ann [] (game (before 579 false))
    ≡ game (before 579 false ++ event.Forced Pennsylvania ∷ event.Bankrupt (seat_at 0) ∷ [])
unfolding after_forced concluded with_aid sold_singly sold_further next_to_sell falls_short lack_of cheapest
    first_on_sale raise_judgement raised_sale_judgement sale_judgement is_not_held is_over_five must_stay
ann_is_bankrupt = refl
